-- The fault of a slot that is larger than a slot may be.
use Rattle.std.specs.Prelude.{◌≡◌, ℕ, List, Ok, Err, length}
use Rattle.admit_core.specs.declared.refusal.Reason.TheVariants.{TooLarge}
use Rattle.admit_core.specs.declared.slot.Slot.TheVariants.{Wishes}
use Rattle.intake.specs.Reading.{sized}
use Rattle.intake.specs.declared.stop.Stop.TheVariants.{Refused}

-- a slot of 2^30 bytes is read, whatever they are, and one of a byte more is refused
abbrev pub SizeFault : Type 0
SizeFault =
    ((bytes : List ℕ) → length bytes ≡ 1073741824 → sized Wishes bytes ≡ Ok bytes)
    × ((bytes : List ℕ) → length bytes ≡ 1073741825 → sized Wishes bytes
    ≡ Err (Refused (record { slot = Wishes; row = 0; reason = TooLarge })))
