use Rattle.outcome_laws.proofs.SizeCases.{size_fault}
use Rattle.outcome_laws.proofs.sizes.worked_sizes.Goals as goal

pub returns : goal.returns
returns c = record { size = size_fault }
