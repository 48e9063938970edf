use Rattle.std.proofs.Common.{◌≡◌, ◌∙◌, ap, option_map}
use Rattle.admit_core.specs.DossierRows.{DossierRows}
use Rattle.admit_core.specs.State.{State}
use Rattle.admit_core.specs.AutoAnswer.{best_live}
use Rattle.day_state.specs.Kept.{state_of}
use Rattle.day_state.proofs.Change.{own_within}
use Rattle.day_state.proofs.Best.{best_own}
use Rattle.day_state.proofs.counted_marks.CountedMarks.best_preference.Goals as goal

pub best_among-requires-clause-wishes : goal.best_among-requires-clause-wishes
best_among-requires-clause-wishes c =
    let wishes : c.as_slice.result.now ≡ c.self.inside.dossier.now.wishes = c.as_slice.ensures
    ∙ ap (λ (d : DossierRows). d.wishes) c.dossier.view_is in
    let dossier : c.self.inside.dossier.now ≡ c.args.self.now.dossier = ap (λ (s : State). s.dossier) c.self.view_is in
    rw (wishes, dossier, c.requires) (own_within c.args.self.now.dossier c.args.candidate)

pub returns : goal.returns
returns c =
    let wishes : c.as_slice.result.now ≡ c.self.inside.dossier.now.wishes = c.as_slice.ensures
    ∙ ap (λ (d : DossierRows). d.wishes) c.dossier.view_is in
    let s = state_of c.self.inside.dossier.now c.self.inside.marks in
    c.best_among.ensures
    ∙ rw (wishes, c.requires, ← ap (λ (s : State). s.dossier) c.self.view_is)
    (best_own s c.args.candidate c.self.invariant.kept.marks)
    ∙ ap (λ (s : State). option_map (λ x. x.0.preference) (best_live s c.args.candidate)) c.self.view_is
