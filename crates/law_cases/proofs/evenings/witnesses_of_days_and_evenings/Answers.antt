use Rattle.law_cases.proofs.EveningCases.{never_both_idle_here, no_lower_here, not_kept_waiting, passes_are_few_here}
use Rattle.law_cases.proofs.EveningCases.{still_fit_here}
use Rattle.law_cases.proofs.evenings.witnesses_of_days_and_evenings.Goals as goal

pub returns : goal.returns
returns c = record {
  few = passes_are_few_here;
  idle = never_both_idle_here;
  waiting = not_kept_waiting;
  fit = still_fit_here;
  no_lower = no_lower_here;
}
