use Rattle.std.proofs.Common.{ap, refl}
use Rattle.admit_core.specs.State.{State}
use Rattle.desk_day.proofs.DayEnds.{keeps_still, tells_none}
use Rattle.desk_day.proofs.ToldPasses.{told_nothing}
use Rattle.day_run.proofs.day.run_alone.Goals as goal

pub returns-in-Err : goal.returns-in-Err
returns-in-Err g c = record {
  done = tt;
  unfit = c.refused.ensures.refusal;
  restored = c.refused.ensures.present;
  evening = c.refused.ensures.evening;
  dossier = ap (λ (s : State). s.dossier) c.refused.ensures.present;
  unopened = keeps_still _ _ c.refused.ensures.opening c.refused.result;
  untold = tells_none _ _ refl c.refused.result;
  asked = told_nothing _ _ _ _ _ _;
  choice = refl;
}
