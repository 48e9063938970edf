use Rattle.admit_core.proofs.Evenings.{seats_are_filled}
use Rattle.admit_core.proofs.ClosedEvenings.{evenings_are_closed}
use Rattle.admit_core.proofs.evening_laws.laws_of_evenings.Goals as goal

pub returns : goal.returns
returns c = record { filled = seats_are_filled; closed = evenings_are_closed }
