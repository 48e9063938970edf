use Rattle.cut_laws.proofs.ValidCut.{cuts_are_valid}
use Rattle.cut_laws.proofs.laws.law_of_next_mornings.Goals as goal

pub returns : goal.returns
returns c = record { valid = cuts_are_valid }
