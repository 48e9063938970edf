-- Words on lists that the rules use.
use Rattle.std.specs.Prelude.{ℕ, Bool, List, [], ◌∷◌, Option, Some, None, nat_eq, nat_lt, nat_le, map, filter}
use Rattle.std.specs.Prelude.{if◌then◌else◌}
use Rattle.std.specs.List.{list_any, enumerate_from}
use Rattle.std.specs.Set.{unique_keys}

-- whether a number is in the list
abbrev pub is_among : ℕ → List ℕ → Bool
is_among n ns = list_any (nat_eq n) ns

-- the numbers of a list, each once
abbrev pub distinct : List ℕ → List ℕ
distinct ns = unique_keys nat_eq ns

-- a number in its place among ascending numbers, and no second time
abbrev pub put_in : ℕ → List ℕ → List ℕ
put_in n [] = n ∷ []
put_in n (m ∷ ms) =
    if nat_lt n m then (n ∷ m ∷ ms) else if nat_eq n m then (m ∷ ms) else (m ∷ put_in n ms)

-- the numbers of a list, ascending, each once
abbrev pub ascending : List ℕ → List ℕ
ascending [] = []
ascending (n ∷ ns) = put_in n (ascending ns)

-- what passes a test, each with its place, and the places alone
abbrev pub placed_where : {X : Type 0} → (X → Bool) → List X → List (ℕ × X)
placed_where test xs = filter (λ x. test x.1) (enumerate_from 0 xs)

abbrev pub places_where : {X : Type 0} → (X → Bool) → List X → List ℕ
places_where test xs = map (λ x. x.0) (placed_where test xs)

-- the one with the lesser key
abbrev pub lesser : {X : Type 0} → (X → ℕ) → X → Option X → X
lesser key x None = x
lesser key x (Some y) = if nat_le (key x) (key y) then x else y

-- the one with the least key
abbrev pub least_by : {X : Type 0} → (X → ℕ) → List X → Option X
least_by key [] = None
least_by key (x ∷ xs) = Some (lesser key x (least_by key xs))

-- x before the first whose key is not less
abbrev pub put_by : {X : Type 0} → (X → ℕ) → X → List X → List X
put_by key x [] = x ∷ []
put_by key x (y ∷ ys) = if nat_le (key x) (key y) then (x ∷ y ∷ ys) else (y ∷ put_by key x ys)

-- a list put in order by a key; equal keys keep their order
abbrev pub sorted_by : {X : Type 0} → (X → ℕ) → List X → List X
sorted_by key [] = []
sorted_by key (x ∷ xs) = put_by key x (sorted_by key xs)
