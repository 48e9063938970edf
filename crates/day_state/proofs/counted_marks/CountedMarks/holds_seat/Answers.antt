use Rattle.std.proofs.Common.{◌≡◌, ◌∙◌, ap, ◌==◌}
use Rattle.admit_core.specs.DossierRows.{DossierRows}
use Rattle.admit_core.specs.State.{State}
use Rattle.day_state.specs.Kept.{state_of, holds_one}
use Rattle.day_state.proofs.Change.{own_within}
use Rattle.day_state.proofs.Places.{own_any}
use Rattle.day_state.proofs.counted_marks.CountedMarks.holds_seat.Goals as goal

pub any_in_programme-requires-clause-wishes : goal.any_in_programme-requires-clause-wishes
any_in_programme-requires-clause-wishes c =
    let wishes : c.as_slice.result.now ≡ c.self.inside.dossier.now.wishes = c.as_slice.ensures
    ∙ ap (λ (d : DossierRows). d.wishes) c.dossier.view_is in
    let dossier : c.self.inside.dossier.now ≡ c.args.self.now.dossier = ap (λ (s : State). s.dossier) c.self.view_is in
    rw (wishes, dossier, c.requires) (own_within c.args.self.now.dossier c.args.candidate)

pub returns : goal.returns
returns c =
    let wishes : c.as_slice.result.now ≡ c.self.inside.dossier.now.wishes = c.as_slice.ensures
    ∙ ap (λ (d : DossierRows). d.wishes) c.dossier.view_is in
    let s = state_of c.self.inside.dossier.now c.self.inside.marks in
    let is = c.self.view_is in
    c.any_in_programme.ensures
    ∙ rw (wishes, c.requires, ← ap (λ (s : State). s.dossier) c.self.view_is)
    (own_any (λ w. w.programme == c.args.programme) s c.args.candidate c.self.invariant.kept.marks)
    ∙ ap (λ (s : State). holds_one (λ w. w.programme == c.args.programme) s c.args.candidate) c.self.view_is
