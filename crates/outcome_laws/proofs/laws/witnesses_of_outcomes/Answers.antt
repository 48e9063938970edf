use Rattle.outcome_laws.proofs.OutcomeCases.{chains_are_proved_here, checks_end_as_replays_here}
use Rattle.outcome_laws.proofs.laws.witnesses_of_outcomes.Goals as goal

pub returns : goal.returns
returns c = record { chains = chains_are_proved_here; replays = checks_end_as_replays_here }
