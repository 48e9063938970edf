use Rattle.std.proofs.Common.{◌∙◌, ap}
use Rattle.admit_core.specs.Days.{ceilings_of}
use Rattle.admit_core.specs.DossierRows.{DossierRows}
use Rattle.admit_core.specs.State.{State}
use Rattle.played.proofs.KeptDays.{ends_early, ends_with_kept}
use Rattle.played.proofs.day.run_with.Goals as goal

pub returns : goal.returns
returns g c =
    ends_with_kept _ _ _ _ _ _ _ c.run_day_by.result
    (c.deref.ensures.value ∙ c.in-Ok.ensures.ceilings
    ∙ ap (λ (d : DossierRows). ceilings_of d c.args.day)
    (c.dossier.ensures ∙ ap (λ (s : State). s.dossier) c.now.ensures)) c.run_day_by.ensures

pub returns-in_default : goal.returns-in_default
returns-in_default g c = ends_early _ _ _ _ _ _ c.refused.result c.refused.ensures.refusal
