-- What wishes are refused for without the tests that are known to stand at no row.
use Rattle.std.proofs.Common.{◌≡◌, ℕ, ◌<◌, Bool, true, false, ◌&&◌, nat_eq, List, All, AllPairs, length}
use Rattle.std.proofs.Common.{get_or, take, refl, ap, ◌∙◌, Option, Some, None}
use Rattle.std.specs.Option.{option_map_or, option_or}
use Rattle.admit_core.proofs.NoFaults.{Passes, differ, differ_when}
use Rattle.admit_core.specs.declared.refusal.Reason.TheVariants.{Repeat, PreferenceTaken}
use Rattle.admit_core.specs.declared.slot.Slot.TheVariants as slots
use Rattle.admit_core.specs.declared.tables.Tables.{Tables}
use Rattle.admit_core.specs.declared.tables.WishRow.{WishRow}
use Rattle.admit_core.specs.Faults.{Test, first_in, first_reason, repeats, names_unknown}
use Rattle.admit_core.specs.Lists.{is_among}
use Rattle.admit_core.specs.Relations.{same_wish, wish_tests, programme_ids, school_ids, unranked, no_boarding_rank}
use Rattle.admit_core.specs.Relations.{preference_mixed, preference_taken}
use Rattle.dossier_check.specs.Wished.{has_preference}
use Rattle.dossier_check.specs.WishTests.{IsRanked, id_repeats, other_tests, others_unless, tests_unless}
use Rattle.dossier_check.specs.WishTests.{unranked_unless}
use Rattle.dossier_check.proofs.Faultless.{left_out, same_in}

-- four tests as one, and one by one
one_by_one : {X : Type 0} (a b c d rest : Option X)
    → option_or (option_or a (option_or b (option_or c (option_or d None)))) rest
    ≡ option_or a (option_or b (option_or c (option_or d rest)))
one_by_one (Some x) b c d rest = refl
one_by_one None (Some x) c d rest = refl
one_by_one None None (Some x) d rest = refl
one_by_one None None None (Some x) rest = refl
one_by_one None None None None rest = refl

-- where a candidate is known to be ranked, this is not asked
known_ranked : (t : Tables) (before : List WishRow) (row : WishRow) (known : Bool) → (known ≡ true → IsRanked t row)
    → unranked_unless known t before row ≡ unranked t before row
known_ranked t before row false fine = refl
known_ranked t before row true fine = rw (fine refl) refl

-- where those are known to stand at no row, each row has the same reason
module _ (t : Tables) (rows : List WishRow) (apart ranked distinct : Bool)
    (once : apart ≡ true → Passes (repeats same_wish) rows) (fine : ranked ≡ true → All (IsRanked t) rows)
    (other : distinct ≡ true → Passes preference_taken rows) where
  same_reason : (k : ℕ) (d : WishRow) → k < length rows
      → first_reason (others_unless apart ranked distinct t) (take k rows) (get_or rows k d)
      ≡ first_reason (other_tests t) (take k rows) (get_or rows k d)
  same_reason k d lt =
      let before : List WishRow = take k rows in
      let row : WishRow = get_or rows k d in
      (λ i.
      option_or (left_out (repeats same_wish) rows apart once k d lt i)
      (option_or
      (option_or (names_unknown 3 (λ w. is_among w.programme (programme_ids t)) before row)
      (option_or (names_unknown 4 (λ w. option_map_or (λ h. is_among h (school_ids t)) w.school true) before row)
      (option_or (known_ranked t before row ranked (λ e. fine e k d lt) i)
      (option_or (no_boarding_rank t before row) None))))
      (option_or (preference_mixed before row)
      (option_or (left_out preference_taken rows distinct other k d lt i) None))))
      ∙ ap (option_or (repeats same_wish before row))
      (one_by_one (names_unknown 3 (λ w. is_among w.programme (programme_ids t)) before row)
      (names_unknown 4 (λ w. option_map_or (λ h. is_among h (school_ids t)) w.school true) before row)
      (unranked t before row) (no_boarding_rank t before row)
      (option_or (preference_mixed before row) (option_or (preference_taken before row) None)))

  -- so the fault is the same
  same_others : first_in slots.Wishes (others_unless apart ranked distinct t) rows
      ≡ first_in slots.Wishes (other_tests t) rows
  same_others = same_in slots.Wishes (others_unless apart ranked distinct t) (other_tests t) rows same_reason

  same_fault : first_in slots.Wishes (tests_unless apart ranked distinct t) rows
      ≡ first_in slots.Wishes (wish_tests t) rows
  same_fault =
      same_in slots.Wishes (tests_unless apart ranked distinct t) (wish_tests t) rows
      (λ k d lt. ap (option_or (id_repeats (take k rows) (get_or rows k d))) (same_reason k d lt))

-- whether two wishes are of one candidate and have one preference
abbrev shares : WishRow → WishRow → Bool
shares row r = nat_eq row.candidate r.candidate && nat_eq row.preference r.preference

-- the tests find of the rows what all tests would, where no two that would clash are there
module _ (t : Tables) (rows : List WishRow) (apart ranked distinct : Bool) (tests : List (Test WishRow))
    (once : apart ≡ true → AllPairs (λ r row. same_wish row r ≡ false) rows)
    (fine : ranked ≡ true → All (IsRanked t) rows)
    (other : distinct ≡ true → AllPairs (λ r row. has_preference row ≡ true
    → (nat_eq row.candidate r.candidate && nat_eq row.preference r.preference) ≡ false) rows) where
  pub found_others : tests ≡ others_unless apart ranked distinct t
      → first_in slots.Wishes tests rows ≡ first_in slots.Wishes (other_tests t) rows
  found_others are =
      ap (λ ts. first_in slots.Wishes ts rows) are
      ∙ same_others t rows apart ranked distinct (λ e. differ same_wish Repeat rows (once e)) fine
      (λ e. differ_when has_preference shares PreferenceTaken rows (other e))

  pub found_same : rows ≡ t.wishes → tests ≡ tests_unless apart ranked distinct t
      → first_in slots.Wishes tests rows ≡ first_in slots.Wishes (wish_tests t) t.wishes
  found_same same are =
      ap (λ ts. first_in slots.Wishes ts rows) are
      ∙ same_fault t rows apart ranked distinct (λ e. differ same_wish Repeat rows (once e)) fine
      (λ e. differ_when has_preference shares PreferenceTaken rows (other e))
      ∙ ap (first_in slots.Wishes (wish_tests t)) same
