-- The slots of a dossier, and those that a case has in their place.
use Rattle.std.specs.Prelude.{ℕ, List, Option, None, Some, unwrap_or}
use Rattle.std.specs.Option.{option_and_then, option_or}
use Rattle.admit_core.specs.Slots.{at, with_at}
use Rattle.admit_core.specs.declared.slot.Slot.{Slot}
use Rattle.case_file.specs.Given.{GivenBytes, header_of}
use Rattle.case_file.specs.declared.given.Slots.{Slots}

-- a case that is given this
abbrev pub with_case : Slots → GivenBytes → Slots
with_case slots given = record slots { case = Some given }

-- a slot is given bytes: in the case, or in the dossier where there is no case
abbrev pub put_by_case : Option GivenBytes → Slot → List ℕ → Slots → Slots
put_by_case None slot bytes slots =
    record slots { dossier = with_at slots.dossier slot (Some bytes) }
put_by_case (Some given) slot bytes slots = with_case slots (with_at given slot (Some bytes))

abbrev pub put_in : Slot → List ℕ → Slots → Slots
put_in slot bytes slots = put_by_case slots.case slot bytes slots

-- what a slot has: what the case gives it, else what the dossier does, else its header
abbrev pub bytes_in : Slots → Slot → List ℕ
bytes_in slots slot =
    unwrap_or (option_or (option_and_then (λ given. at given slot) slots.case) (at slots.dossier slot))
    (header_of slot)
