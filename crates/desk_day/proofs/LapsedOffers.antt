-- The offers that lapse on a day.
use Rattle.std.proofs.Common.{ℕ, ◌≡◌, ◌≤◌, Bool, true, arith}
use Rattle.std.specs.Prelude.{ℤ, pos, ◌+ℤ◌, ◌≤ℤ◌, int_lt}
use Rattle.std.proofs.lemmas.Bool.{and_parts}
use Rattle.std.proofs.lemmas.Int.{ints}
use Rattle.admit_core.specs.declared.state.Mark.{Mark}
use Rattle.admit_core.specs.declared.records.Lapse.{Lapse}
use Rattle.admit_core.specs.Lapses.{is_offered, lapses, offer_day}

abbrev pub lapse_of : ℕ × (ℤ × Mark) → Lapse
lapse_of x = record { wish = x.0; offered = offer_day x.1.0 x.1.1 }

abbrev pub is_lapse : ℕ → ℕ → ℕ × (ℤ × Mark) → Bool
is_lapse term day x = lapses term day x.1.0 x.1.1

before_the_end : (term day : ℕ) (o : ℤ) → int_lt (o +ℤ pos term) (pos day) ≡ true → day ≤ 366 → o ≤ℤ pos 2147483647
before_the_end term day o late le = grind (arith, ints)

-- an offer that lapses within a campaign was made before its end
pub early_offer : (term day : ℕ) (m : Mark) (before : ℤ) → lapses term day before m ≡ true → day ≤ 366
    → offer_day before m ≤ℤ pos 2147483647
early_offer term day m before t le =
    before_the_end term day (offer_day before m)
    (and_parts (is_offered m.status) (int_lt (offer_day before m +ℤ pos term) (pos day)) t).1
    le
