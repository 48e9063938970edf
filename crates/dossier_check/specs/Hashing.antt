-- The numbers that keys are made of.
use Rattle.std.specs.Prelude.{ℕ, ◌∷◌, [], ◌&&◌, Bool, true, List, map, nat_eq, nat_le, nat_lt}
use Rattle.std.specs.Prelude.{unwrap_or, if◌then◌else◌}
use Rattle.admit_core.specs.declared.tables.RankRow.{RankRow}
use Rattle.admit_core.specs.declared.tables.Tables.{Tables}
use Rattle.admit_core.specs.declared.tables.WishRow.{WishRow}

-- a number of each row, with 0 beside it
abbrev pub alone : {R : Type 0} → (R → ℕ) → List R → List (ℕ × ℕ)
alone own rows = map (λ r. (own r, 0)) rows

-- whether the ids of wishes rise, and their candidates don't fall, from these on
abbrev pub in_order : ℕ → ℕ → List WishRow → Bool
in_order id candidate [] = true
in_order id candidate (w ∷ ws) =
    (nat_lt id w.id && nat_le candidate w.candidate) && in_order w.id w.candidate ws

-- the candidate of each wish that is not that of the wish before it, the first of which is this
abbrev pub changes : ℕ → List WishRow → List (ℕ × ℕ)
changes last [] = []
changes last (w ∷ ws) =
    if nat_eq w.candidate last then changes last ws else (w.candidate, 0) ∷ changes w.candidate ws

-- all numbers that wishes and their candidates are hashed by; ids that rise are not hashed
abbrev pub whos : List WishRow → List (ℕ × ℕ)
whos rows =
    if in_order 0 0 rows then changes 0 rows else map (λ r. (r.id, r.candidate)) rows

-- all numbers that rows are mostly found by, slot by slot
abbrev pub numbers_of : Tables → List (List (ℕ × ℕ))
numbers_of t =
    alone (λ r. r.id) t.groups
    ∷ alone (λ r. r.id) t.programmes
    ∷ alone (λ r. r.id) t.schools
    ∷ map (λ r. (r.school, r.candidate)) t.boarding
    ∷ map (λ r. (r.school, r.rank)) t.boarding
    ∷ whos t.wishes
    ∷ alone (λ r. r.wish) t.state
    ∷ map (λ r. (r.day, r.school)) t.ceilings
    ∷ []

-- all numbers of the rankings by which two of their rows may be alike
abbrev pub numbers_of_ranks : List RankRow → List (List (ℕ × ℕ))
numbers_of_ranks rows =
    map (λ r. (r.group, r.candidate)) rows ∷ map (λ r. (r.group, r.rank)) rows ∷ []

-- all numbers of the wishes by which two of their rows may be alike
abbrev pub numbers_of_wishes : List WishRow → List (List (ℕ × ℕ))
numbers_of_wishes rows =
    map (λ r. (r.candidate, r.programme)) rows
    ∷ map (λ r. (unwrap_or r.school 0, r.preference)) rows
    ∷ []
