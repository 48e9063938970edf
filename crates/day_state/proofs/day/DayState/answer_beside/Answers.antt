use Rattle.std.proofs.Common.{◌≡◌, ◌∙◌, ap, refl, subst}
use Rattle.admit_core.specs.DossierRows.{DossierRows}
use Rattle.admit_core.specs.Answers.{candidate_at}
use Rattle.admit_core.specs.Validity.{IsValid}
use Rattle.day_state.specs.Kept.{candidate_in}
use Rattle.day_state.proofs.Taking.{whole_taken}
use Rattle.day_state.proofs.day.DayState.answer_beside.Goals as goal

pub invariant_of-self : goal.invariant_of-self
invariant_of-self c =
    let s = c.self.inside.live in
    let valid : IsValid s.dossier = subst IsValid (c.dossier.view_is ∙ c.dossier-dossier.ensures) c.dossier.invariant in
    rw c.take_best.ensures.state (whole_taken c.self.inside.index.value s c.candidate_at-candidate.result
    c.args.stamp valid c.self.invariant)

pub returns-clause-state : goal.returns-clause-state
returns-clause-state c =
    let s = c.self.inside.live in
    let candidate : c.candidate_at-candidate.result ≡ candidate_at s c.args.wish =
    c.candidate_at-candidate.ensures ∙ ap (λ ws. candidate_in ws c.args.wish)
    (c.as_slice.ensures ∙ ap (λ (d : DossierRows). d.wishes) (c.dossier.view_is ∙ c.dossier-dossier.ensures)) in
    c.take_best.ensures.state ∙ rw (candidate, c.self.view_is) refl

pub returns-clause-freed : goal.returns-clause-freed
returns-clause-freed c =
    let s = c.self.inside.live in
    let candidate : c.candidate_at-candidate.result ≡ candidate_at s c.args.wish =
    c.candidate_at-candidate.ensures ∙ ap (λ ws. candidate_in ws c.args.wish)
    (c.as_slice.ensures ∙ ap (λ (d : DossierRows). d.wishes) (c.dossier.view_is ∙ c.dossier-dossier.ensures)) in
    c.take_best.ensures.freed ∙ rw (candidate, c.self.view_is) refl
