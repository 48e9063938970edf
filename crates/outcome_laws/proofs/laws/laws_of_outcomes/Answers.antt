use Rattle.outcome_laws.proofs.Outcomes.{chains_are_proved, checks_end_as_replays}
use Rattle.outcome_laws.proofs.laws.laws_of_outcomes.Goals as goal

pub returns : goal.returns
returns c = record { chains = chains_are_proved; replays = checks_end_as_replays }
