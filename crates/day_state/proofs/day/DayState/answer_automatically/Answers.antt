use Rattle.std.proofs.Common.{◌∙◌, subst}
use Rattle.admit_core.specs.Validity.{IsValid}
use Rattle.day_state.proofs.Taking.{whole_taken}
use Rattle.day_state.proofs.day.DayState.answer_automatically.Goals as goal

pub invariant_of-self : goal.invariant_of-self
invariant_of-self c =
    let s = c.self.inside.live in
    let valid : IsValid s.dossier = subst IsValid (c.dossier.view_is ∙ c.dossier-dossier.ensures) c.dossier.invariant in
    rw c.take_best.ensures.state (whole_taken c.self.inside.index.value s c.args.candidate c.args.stamp valid
    c.self.invariant)
