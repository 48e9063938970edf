-- The worked faults hold.
use Rattle.std.proofs.Common.{refl}
use Rattle.admit_core.specs.Faults.{first_after}
use Rattle.admit_core.specs.WorkedFaults.{RankingFaults, WishFaults, StateFaults, StandingRows, OtherFaults}

pub ranking_faults : RankingFaults
unfolding first_after
ranking_faults = (refl, refl, refl)

pub wish_faults : WishFaults
unfolding first_after
wish_faults = (refl, refl, refl, refl, refl, refl, refl, refl)

pub state_faults : StateFaults
unfolding first_after
state_faults = (refl, refl, refl)

pub standing_rows : StandingRows
standing_rows = (refl, refl)

pub other_faults : OtherFaults
unfolding first_after
other_faults = (refl, refl, refl, refl, refl, refl)
