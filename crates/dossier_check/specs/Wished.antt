-- What a wish is of, and how much it is preferred.
use Rattle.std.specs.Prelude.{ℕ, Bool, nat_lt, unwrap_or}
use Rattle.admit_core.specs.declared.tables.WishRow.{WishRow}

-- the candidate, the programme and the school, or 0 without one
abbrev pub wished : WishRow → ℕ × ℕ × ℕ
wished r = (r.candidate, r.programme, unwrap_or r.school 0)

-- the candidate and the preference
abbrev pub preferred : WishRow → ℕ × ℕ
preferred r = (r.candidate, r.preference)

abbrev pub has_preference : WishRow → Bool
has_preference r = nat_lt 0 r.preference
