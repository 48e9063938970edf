-- Days that do not fall.
use Rattle.std.proofs.Common.{◌≡◌, ℕ, ◌+◌, ◌<◌, ◌≤◌, Bool, true, false, nat_lt, List, [], ◌∷◌, ◌++◌, if◌then◌else◌}
use Rattle.std.proofs.Common.{length, map, get_or, take, Some, None, refl, ap, ◌∙◌, arith}
use Rattle.std.specs.List.Sorted.{IsNonDecreasing}
use Rattle.std.specs.Option.{option_map_or}
use Rattle.std.proofs.lemmas.Bool.Decides.{nat_tests}
use Rattle.std.proofs.lemmas.List.{take_more, get_or-map}
use Rattle.std.proofs.lemmas.List.Sorted.{IsNonDecreasingBy-from_all_adjacent}
use Rattle.admit_core.proofs.NoFaults.{Passes}
use Rattle.admit_core.specs.declared.refusal.Reason.TheVariants.{DayFalls}
use Rattle.admit_core.specs.Relations.{last_row, day_falls}
use Rattle.dossier_check.proofs.Firsts.{length-map-here}

pub last_row-push : {R : Type 0} (rows : List R) (row : R) → last_row (rows ++ row ∷ []) ≡ Some row
last_row-push [] row = refl
last_row-push (r ∷ []) row = refl
last_row-push (r ∷ (s ∷ rows)) row = last_row-push (s ∷ rows) row

if_falls : (b : Bool) → (if b then Some DayFalls else None) ≡ None → b ≡ false
if_falls true e = cc
if_falls false e = refl

module _ {R : Type 0} (day : R → ℕ) where
  next_day : (rows : List R) → Passes (day_falls day) rows → (k : ℕ) (d : R) → k + 1 < length rows
      → day (get_or rows k d) ≤ day (get_or rows (k + 1) d)
  next_day rows fine k d lt =
      let last : last_row (take (k + 1) rows) ≡ Some (get_or rows k d) =
      ap last_row (take_more rows k d (omega arith)) ∙ last_row-push (take k rows) (get_or rows k d) in
      let falls : option_map_or (λ last. nat_lt (day (get_or rows (k + 1) d)) (day last))
      (last_row (take (k + 1) rows)) false ≡ false = if_falls _ (fine.at (k + 1) d lt) in
      let rises : nat_lt (day (get_or rows (k + 1) d)) (day (get_or rows k d)) ≡ false = rw last at falls in
      grind (arith, nat_tests)

  pub days_rise : (rows : List R) → Passes (day_falls day) rows → IsNonDecreasing (map day rows)
  days_rise [] fine = λ i j d le lt. absurd (omega arith)
  days_rise (first ∷ rest) fine =
      let rows = first ∷ rest in
      IsNonDecreasingBy-from_all_adjacent (λ n. n) (map day rows) (λ k e lt.
      let within : k + 1 < length rows = omega (arith, length-map-here day rows) in
      rw (get_or-map day rows k first e (omega arith), get_or-map day rows (k + 1) first e within)
      (next_day rows fine k first within))
