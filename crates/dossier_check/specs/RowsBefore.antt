-- What a scan keeps of the rows before.
use Rattle.std.specs.Prelude.{◌≡◌, ℕ, Bool, ◌&&◌, nat_eq, nat_lt, length, List, map, Option, Some, IfSome, position}
use Rattle.std.specs.Prelude.{option_and_then, option_map, slice_get}
use Rattle.std.specs.Option.{option_map_or}
use Rattle.admit_core.specs.declared.tables.StateRow.{StateRow}
use Rattle.admit_core.specs.declared.tables.WishRow.{WishRow}
use Rattle.admit_core.specs.declared.tables.Tables.{Tables}
use Rattle.admit_core.specs.Faults.{first_row}
use Rattle.admit_core.specs.Lists.{is_among}
use Rattle.admit_core.specs.Relations.{first_wish_of, last_row, is_accepted, same_candidate, candidate_with}
use Rattle.dossier_check.specs.declared.first_wishes.FirstWish.{FirstWish}
use Rattle.dossier_check.specs.declared.first_wishes.FirstWishes.{FirstWishes}
use Rattle.dossier_check.specs.declared.preferences.LastCandidate.{LastCandidate}

-- the pairs that boarding rows are found by
abbrev pub boarded_pairs : Tables → List (ℕ × ℕ)
boarded_pairs t = map (λ b. (b.school, b.candidate)) t.boarding

-- `found` gives for each key the number of the first row that has it; `has k` says whether a row
-- has k
abbrev pub AreFirstRows : {R K : Type 0} → (K → R → Bool) → (K → Option ℕ) → List R → Type 0
AreFirstRows {R} {K} has found before = (k : K) → found k ≡ first_row (has k) before

-- whether a wish has this candidate and this preference, and one at all
abbrev pub has_preference : ℕ × ℕ → WishRow → Bool
has_preference k r = nat_lt 0 r.preference && (nat_eq k.0 r.candidate && nat_eq k.1 r.preference)

-- whether a status is an accepted one of this candidate
abbrev pub is_accepted_of : Tables → ℕ → StateRow → Bool
is_accepted_of t candidate r =
    is_accepted r.status && same_candidate (Some candidate) (candidate_with t r.wish)

-- what is kept of a candidate's first wish
abbrev pub noted_wish : ℕ × WishRow → FirstWish
noted_wish first = record { row = first.0; preference = first.1.preference }

-- `found` gives for each candidate their first wish
abbrev pub AreFirstWishes : (ℕ → Option FirstWish) → List WishRow → Type 0
AreFirstWishes found before =
    (candidate : ℕ) → found candidate ≡ option_map noted_wish (first_wish_of before candidate)

-- the first wish that is kept of a candidate
abbrev pub first_of : FirstWishes → ℕ → Option FirstWish
first_of firsts candidate =
    option_and_then (slice_get firsts.wishes.items) (position (nat_eq candidate) firsts.candidates.keys)

-- a wish is kept of each candidate
abbrev pub AreAsMany : FirstWishes → Type 0
AreAsMany firsts = length firsts.wishes.items ≡ length firsts.candidates.keys

-- these are just those who have a wish
abbrev pub KnowsCandidates : List ℕ → List WishRow → Type 0
KnowsCandidates candidates rows =
    (candidate : ℕ) → is_among candidate candidates ≡ is_among candidate (map (λ w. w.candidate) rows)

-- what is kept of the last row's candidate is their first wish
abbrev pub IsLast : FirstWishes → Option LastCandidate → Type 0
IsLast firsts last = AreAsMany firsts × IfSome last (λ l. first_of firsts l.candidate ≡ Some l.first)

-- the day of the last row, or 0
abbrev pub IsLastDay : {R : Type 0} → (R → ℕ) → List R → ℕ → Type 0
IsLastDay day before last = last ≡ option_map_or day (last_row before) 0
