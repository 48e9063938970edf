-- Boarding ranks that rise, and what rows are refused for where no rank is known to stand twice.
use Rattle.std.proofs.Common.{◌≡◌, ℕ, ◌<◌, Bool, true, false, ◌&&◌, nat_eq, nat_lt, List, [], ◌∷◌, map, length, get_or}
use Rattle.std.proofs.Common.{take, refl, sym, ap, ◌∙◌, arith, true≢false, AllPairs, None, if◌then◌else◌}
use Rattle.std.specs.List.{IsAllAdjacentAnswer}
use Rattle.std.specs.Option.{option_or}
use Rattle.std.proofs.lemmas.List.{get_or-map}
use Rattle.std.proofs.lemmas.Map.Keys.{apart_from_distinct}
use Rattle.admit_core.proofs.NoFaults.{differ}
use Rattle.admit_core.specs.declared.refusal.Reason.TheVariants.{RankTaken}
use Rattle.admit_core.specs.declared.slot.Slot.TheVariants as slots
use Rattle.admit_core.specs.declared.tables.BoardRow.{BoardRow}
use Rattle.admit_core.specs.declared.tables.Tables.{Tables}
use Rattle.admit_core.specs.Faults.{Test, first_in, repeats, takes_rank, names_unknown}
use Rattle.admit_core.specs.Lists.{is_among}
use Rattle.admit_core.specs.Relations.{boarding_tests, school_ids}
use Rattle.dossier_check.specs.Tags.{tag_of}
use Rattle.dossier_check.proofs.Faultless.{left_out, same_in}
use Rattle.dossier_check.proofs.Firsts.{length-map-here}
use Rattle.dossier_check.proofs.Places.{nat_eq_same, nat_eq_sound}
use Rattle.dossier_check.proofs.Rising.{keys_rise}

-- whether two rows have one school and one rank
abbrev same_rank : BoardRow → BoardRow → Bool
same_rank row r = nat_eq row.school r.school && nat_eq row.rank r.rank

-- the school of a row and, behind it, the rank
abbrev pub ranked : BoardRow → ℕ
ranked row = tag_of row.school row.rank

not_same : (r row : BoardRow) → nat_eq (ranked r) (ranked row) ≡ false → same_rank row r ≡ false
not_same r row apart = by (nat_eq row.school r.school) refl (nat_eq row.rank r.rank) refl
  where
    by : (a : Bool) → nat_eq row.school r.school ≡ a → (b : Bool) → nat_eq row.rank r.rank ≡ b
        → same_rank row r ≡ false
    by false ea b eb = rw ea refl
    by true ea false eb = rw (ea, eb) refl
    by true ea true eb =
        let school : r.school ≡ row.school = sym (nat_eq_sound row.school r.school ea) in
        let rank : r.rank ≡ row.rank = sym (nat_eq_sound row.rank r.rank eb) in
        let same : ranked r ≡ ranked row = rw (school, rank) refl in
        absurd (true≢false (sym (nat_eq_same (ranked r) (ranked row) same) ∙ apart))

-- where each row has a greater school than the one before it, or the same and a greater rank, no
-- two have the same school and rank
pub ranks_apart : (rows : List BoardRow) (r : Bool)
    → IsAllAdjacentAnswer (λ x y b. b ≡ nat_lt (ranked x) (ranked y)) rows r → r ≡ true
    → AllPairs (λ r row. same_rank row r ≡ false) rows
ranks_apart rows r below e i j d lt within =
    let there : j < length (map ranked rows) = omega (arith, length-map-here ranked rows) in
    let differ : nat_eq (get_or (map ranked rows) i (ranked d)) (get_or (map ranked rows) j (ranked d)) ≡ false =
    apart_from_distinct nat_eq (map ranked rows) i j (ranked d) (keys_rise ranked rows r below e) lt there in
    not_same (get_or rows i d) (get_or rows j d)
    (rw (
      get_or-map ranked rows i d (ranked d) (omega arith),
      get_or-map ranked rows j d
          (ranked d) within,
    ) at differ)

-- the tests of boarding ranks, where that of ranks may be left out
abbrev tests_unless : Bool → Tables → List (Test BoardRow)
tests_unless known t =
    repeats (λ row r. nat_eq row.school r.school && nat_eq row.candidate r.candidate)
    ∷ names_unknown 1 (λ row. is_among row.school (school_ids t))
    ∷ (λ before row. if known then None else takes_rank same_rank before row)
    ∷ []

-- they find what all tests would
pub found_same : (t : Tables) (rows : List BoardRow) (known : Bool) (tests : List (Test BoardRow))
    → (known ≡ true → AllPairs (λ r row. same_rank row r ≡ false) rows)
    → rows ≡ t.boarding → tests ≡ tests_unless known t
    → first_in slots.Boarding tests rows ≡ first_in slots.Boarding (boarding_tests t) t.boarding
found_same t rows known tests apart same are =
    ap (λ ts. first_in slots.Boarding ts rows) are
    ∙ same_in slots.Boarding (tests_unless known t) (boarding_tests t) rows
    (λ k d lt. ap (λ o.
    option_or (repeats (λ row r. nat_eq row.school r.school && nat_eq row.candidate r.candidate) (take k rows)
    (get_or rows k d))
    (option_or (names_unknown 1 (λ row. is_among row.school (school_ids t)) (take k rows) (get_or rows k d))
    (option_or o None)))
    (left_out (takes_rank same_rank) rows known (λ e. differ same_rank RankTaken rows (apart e)) k d lt))
    ∙ ap (first_in slots.Boarding (boarding_tests t)) same
