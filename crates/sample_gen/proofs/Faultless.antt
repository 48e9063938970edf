-- A sample has no fault.
use Rattle.std.proofs.Common.{refl, ◌≡◌, ℕ, ◌≤◌, [], None, arith}
use Rattle.admit_core.proofs.Plain.{none_or_none}
use Rattle.admit_core.proofs.NoFaults.{none_in}
use Rattle.admit_core.specs.declared.slot.Slot.TheVariants as slots
use Rattle.admit_core.specs.Relations.{state_tests, ceiling_tests, answer_tests, first_fault}
use Rattle.sample_gen.specs.Samples.{sample_tables}
use Rattle.sample_gen.proofs.ItemSlots.{groups_fine, programmes_fine, schools_fine}
use Rattle.sample_gen.proofs.RankSlots.{rankings_fine, boarding_fine}
use Rattle.sample_gen.proofs.WishSlot.{wishes_fine}

pub sample_faultless : (n : ℕ) → n ≤ 1000000 → first_fault (sample_tables n) ≡ None
sample_faultless n high =
    none_or_none (groups_fine n)
    (none_or_none (programmes_fine n)
    (none_or_none (schools_fine n)
    (none_or_none (rankings_fine n high)
    (none_or_none (boarding_fine n high)
    (none_or_none (wishes_fine n)
    (none_or_none (none_in slots.State (state_tests (sample_tables n)) []
    (record { at = λ k d lt. absurd (omega arith) }))
    (none_or_none (none_in slots.Ceilings (ceiling_tests (sample_tables n)) []
    (record { at = λ k d lt. absurd (omega arith) }))
    (none_or_none (none_in slots.Answers (answer_tests (sample_tables n)) []
    (record { at = λ k d lt. absurd (omega arith) }))
    refl))))))))
