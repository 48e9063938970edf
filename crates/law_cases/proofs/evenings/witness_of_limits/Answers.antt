use Rattle.law_cases.proofs.EveningCases.{limit_here, three_are_live}
use Rattle.law_cases.proofs.evenings.witness_of_limits.Goals as goal

pub returns : goal.returns
returns c = record { limit = limit_here; three = three_are_live }
