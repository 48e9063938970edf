use Rattle.outcome_laws.proofs.Cases.{own_texts_are_proved_here}
use Rattle.outcome_laws.proofs.laws.witnesses_of_checks.Goals as goal

pub returns : goal.returns
returns c = record { proved = own_texts_are_proved_here }
