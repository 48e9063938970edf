use Rattle.std.proofs.Common.{◌≡◌, ◌∙◌, ◌<◌, ap, refl, arith, length}
use Rattle.admit_core.specs.DossierRows.{DossierRows}
use Rattle.admit_core.specs.Answers.{candidate_at}
use Rattle.day_state.specs.Kept.{candidate_in}
use Rattle.day_state.proofs.Along.{refuse_live_is}
use Rattle.day_state.proofs.Answering.{whole_accept, long_refused}
use Rattle.day_state.proofs.day.DayState.accept.Goals as goal

pub set_mark-requires : goal.set_mark-requires
set_mark-requires c =
    let lt : c.args.wish < length c.self.inside.live.dossier.wishes = rw c.self.view_is c.requires in
    rw (c.change_own.ensures.state ∙ refuse_live_is c.self.inside.live c.candidate_at-candidate.result c.args.stamp)
    (omega (
      arith,
      lt,
      long_refused c.self.inside.live c.candidate_at-candidate.result c.args.stamp
          c.self.invariant.long,
      c.self.invariant.long,
    ))

pub invariant_of-self : goal.invariant_of-self
invariant_of-self c =
    let lt : c.args.wish < length c.self.inside.live.dossier.wishes = rw c.self.view_is c.requires in
    let s = c.self.inside.live in
    let candidate : c.candidate_at-candidate.result ≡ candidate_at s c.args.wish =
    c.candidate_at-candidate.ensures ∙ ap (λ ws. candidate_in ws c.args.wish)
    (c.as_slice.ensures ∙ ap (λ (d : DossierRows). d.wishes) (c.dossier.view_is ∙ c.dossier-dossier.ensures)) in
    rw (
      c.set_mark.ensures.state,
      (c.change_own.ensures.state
          ∙ refuse_live_is c.self.inside.live c.candidate_at-candidate.result c.args.stamp),
      c.changed_to-mark.ensures,
      c.mark.ensures,
      candidate,
    ) (whole_accept c.self.inside.index.value s c.args.wish c.args.stamp c.self.invariant lt)

pub returns : goal.returns
returns c =
    let s = c.self.inside.live in
    let candidate : c.candidate_at-candidate.result ≡ candidate_at s c.args.wish =
    c.candidate_at-candidate.ensures ∙ ap (λ ws. candidate_in ws c.args.wish)
    (c.as_slice.ensures ∙ ap (λ (d : DossierRows). d.wishes) (c.dossier.view_is ∙ c.dossier-dossier.ensures)) in
    rw (
      c.set_mark.ensures.state,
      (c.change_own.ensures.state
          ∙ refuse_live_is c.self.inside.live c.candidate_at-candidate.result c.args.stamp),
      c.changed_to-mark.ensures,
      c.mark.ensures,
      candidate,
      c.self.view_is,
    ) refl
