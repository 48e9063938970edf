-- The worked case of a slot's size.
use Rattle.std.proofs.Common.{refl}
use Rattle.intake.specs.Reading.{sized}
use Rattle.outcome_laws.specs.Sizes.{SizeFault}

pub size_fault : SizeFault
unfolding sized
size_fault = (λ bytes is. rw is refl, λ bytes is. rw is refl)
