-- Which picker each day has.
use Rattle.std.specs.Prelude.{ℕ, ◌%◌, ◌==◌, if◌then◌else◌}
use Rattle.request.specs.declared.pickers.PickerChoice.{PickerChoice}
use Rattle.request.specs.declared.pickers.PickerChoice.TheVariants.{Same, Each}
use Rattle.request.specs.declared.pickers.PickerName.{PickerName}
use Rattle.request.specs.declared.pickers.PickerName.TheVariants.{First, Last, Turn}

-- the picker of a day
abbrev pub picker_on : PickerChoice → ℕ → PickerName
picker_on (Same name) day = name
picker_on Each day = if day % 3 == 1 then First else (if day % 3 == 2 then Last else Turn)
