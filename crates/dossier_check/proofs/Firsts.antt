-- The first of a list that passes a test.
use Rattle.std.proofs.Common.{◌≡◌, ◌<◌, Bool, true, false, not, nat_lt, List, [], ◌∷◌, ◌++◌, length, map, option_map}
use Rattle.std.proofs.Common.{position, None, refl, sym, arith, true≢false}
use Rattle.std.specs.List.{list_any, position_or_len}
use Rattle.admit_core.specs.Faults.{row_number}

-- where none passes, the first is past the end
pub none_passes : {X : Type 0} (p : X → Bool) (xs : List X) → list_any p xs ≡ false → position_or_len p xs ≡ length xs
none_passes p [] h = refl
none_passes p (x ∷ xs) h = grind (arith, none_passes p xs)

pub position-none : {X : Type 0} (p : X → Bool) (xs : List X) → list_any p xs ≡ false → position p xs ≡ None
position-none p xs h = rw (none_passes p xs h) (grind arith)

pub not_is_false : (b : Bool) → not b ≡ true → b ≡ false
not_is_false false h = refl
not_is_false true h = cc

pub not_is_true : (b : Bool) → not b ≡ false → b ≡ true
not_is_true true h = refl
not_is_true false h = cc

-- the first among the images
pub position_or_len-map : {X Y : Type 0} (p : Y → Bool) (f : X → Y) (xs : List X)
    → position_or_len p (map f xs) ≡ position_or_len (λ x. p (f x)) xs
position_or_len-map p f [] = refl
position_or_len-map p f (x ∷ xs) = rw (position_or_len-map p f xs) refl

pub length-map-here : {X Y : Type 0} (f : X → Y) (xs : List X) → length (map f xs) ≡ length xs
length-map-here f [] = refl
length-map-here f (x ∷ xs) = rw (length-map-here f xs) refl

pub position-map : {X Y : Type 0} (p : Y → Bool) (f : X → Y) (xs : List X)
    → position p (map f xs) ≡ position (λ x. p (f x)) xs
position-map p f xs = rw (position_or_len-map p f xs, length-map-here f xs) refl

pub map-push : {X Y : Type 0} (f : X → Y) (xs : List X) (x : X) → map f (xs ++ x ∷ []) ≡ map f xs ++ f x ∷ []
map-push f [] x = refl
map-push f (y ∷ ys) x = rw (map-push f ys x) refl

-- where one passes, the first is within the list
pub one_passes : {X : Type 0} (p : X → Bool) (xs : List X) → list_any p xs ≡ true → position_or_len p xs < length xs
one_passes p [] h = absurd (true≢false (sym h))
one_passes p (x ∷ xs) h = grind (arith, one_passes p xs)

pub position-some : {X : Type 0} (p : X → Bool) (xs : List X) → list_any p xs ≡ true
    → option_map row_number (position p xs) ≡ None → ⊥
position-some p xs h none = let lt = one_passes p xs h in
    let e : nat_lt (position_or_len p xs) (length xs) ≡ true = grind arith in cc (rw e at none)

-- where no first one is found, none passes
pub none_found : {X : Type 0} (p : X → Bool) (xs : List X) → option_map row_number (position p xs) ≡ None
    → list_any p xs ≡ false
none_found p xs none = by (list_any p xs) refl
  where
    by : (b : Bool) → list_any p xs ≡ b → list_any p xs ≡ false
    by true e = absurd (position-some p xs e none)
    by false e = e
