-- The tests of wishes without those that are known to stand at no row.
use Rattle.std.specs.Prelude.{◌≡◌, Bool, true, ◌||◌, nat_eq, List, [], ◌∷◌, if◌then◌else◌, None, Some}
use Rattle.std.specs.Option.{option_map_or}
use Rattle.admit_core.specs.declared.refusal.Reason.TheVariants.{Unranked}
use Rattle.admit_core.specs.declared.tables.Tables.{Tables}
use Rattle.admit_core.specs.declared.tables.WishRow.{WishRow}
use Rattle.admit_core.specs.Faults.{Test, first_reason, repeats, names_unknown}
use Rattle.admit_core.specs.Lists.{is_among}
use Rattle.admit_core.specs.Relations.{same_wish, programme_ids, school_ids, is_ranked, unranked}
use Rattle.admit_core.specs.Relations.{no_boarding_rank, preference_mixed, preference_taken}

-- the tests of wishes but that of ids
abbrev pub other_tests : Tables → List (Test WishRow)
other_tests t =
    repeats same_wish
    ∷ names_unknown 3 (λ row. is_among row.programme (programme_ids t))
    ∷ names_unknown 4 (λ row. option_map_or (λ h. is_among h (school_ids t)) row.school true)
    ∷ unranked t
    ∷ no_boarding_rank t
    ∷ preference_mixed
    ∷ preference_taken
    ∷ []

-- the candidate is not ranked, where it is not known that all are
abbrev pub unranked_unless : Bool → Tables → Test WishRow
unranked_unless known t before row =
    if known || is_ranked t row.programme row.candidate then None else Some Unranked

-- the candidate may not wish for what the wish names, or it is not there
abbrev pub may_not_wish : Bool → Tables → Test WishRow
may_not_wish known t =
    first_reason (
    names_unknown 3 (λ row. is_among row.programme (programme_ids t))
    ∷ names_unknown 4 (λ row. option_map_or (λ h. is_among h (school_ids t)) row.school true)
    ∷ unranked_unless known t
    ∷ no_boarding_rank t
    ∷ []
    )

-- those tests, where that of the same wish, that of who is ranked and that of the same preference
-- may be left out
abbrev pub others_unless : Bool → Bool → Bool → Tables → List (Test WishRow)
others_unless apart ranked distinct t =
    (λ before row. if apart then None else repeats same_wish before row)
    ∷ may_not_wish ranked t
    ∷ preference_mixed
    ∷ (λ before row. if distinct then None else preference_taken before row)
    ∷ []

-- the candidate of the wish is ranked in the group of its programme
abbrev pub IsRanked : Tables → WishRow → Type 0
IsRanked t row = is_ranked t row.programme row.candidate ≡ true

-- whether an earlier row has the same id
abbrev pub id_repeats : Test WishRow
id_repeats = repeats (λ row r. nat_eq row.id r.id)

-- the tests of wishes, where those may be left out
abbrev pub tests_unless : Bool → Bool → Bool → Tables → List (Test WishRow)
tests_unless apart ranked distinct t = id_repeats ∷ others_unless apart ranked distinct t
