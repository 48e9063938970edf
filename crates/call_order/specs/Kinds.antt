-- The kinds of candidates, and the queue of each.
use Rattle.std.specs.Prelude.{ℕ, ◌+◌, Bool, true, false, not, ◌&&◌, List, [], ◌∷◌, drop, Option, find, if◌then◌else◌}
use Rattle.std.specs.List.{position_or_len}
use Rattle.admit_core.specs.declared.ranking.Ranked.{Ranked}
use Rattle.call_order.specs.declared.kind.Kind.{Kind}
use Rattle.call_order.specs.declared.kind.Kind.TheVariants.{Neither, ScholarOnly, ResidentOnly, BothKinds}

-- whether the flags of a scholar and of a resident are those of a kind
abbrev pub has_flags : Kind → Bool → Bool → Bool
has_flags Neither scholar resident = not scholar && not resident
has_flags ScholarOnly scholar resident = scholar && not resident
has_flags ResidentOnly scholar resident = not scholar && resident
has_flags BothKinds scholar resident = scholar && resident

-- the kind that two flags make
abbrev pub kind_by : Bool → Bool → Kind
kind_by false false = Neither
kind_by true false = ScholarOnly
kind_by false true = ResidentOnly
kind_by true true = BothKinds

abbrev pub kind_of : Ranked → Kind
kind_of r = kind_by r.scholar r.resident

abbrev pub is_of : Kind → Ranked → Bool
is_of kind r = has_flags kind r.scholar r.resident

-- the first of a kind
abbrev pub head_of : Kind → List Ranked → Option Ranked
head_of kind rs = find (is_of kind) rs

-- a list without the first that passes a test
abbrev pub without_first : {X : Type 0} → (X → Bool) → List X → List X
without_first test [] = []
without_first test (x ∷ xs) = if test x then xs else (x ∷ without_first test xs)

-- a list without the first of a kind
abbrev pub without_head : Kind → List Ranked → List Ranked
without_head kind rs = without_first (is_of kind) rs

-- the next place of a kind after a place, or the end of the list
abbrev pub next_place : Kind → ℕ → List Ranked → ℕ
next_place kind place list = place + 1 + position_or_len (is_of kind) (drop (place + 1) list)
