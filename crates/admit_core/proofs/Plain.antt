-- Plain facts of truth values, options and lists, which the proofs of several crates cite.
use Rattle.std.proofs.Common.{ℕ, zero, suc, ◌≡◌, ◌≢◌, ◌+◌, Bool, true, false, cond, ◌&&◌, ◌||◌, ◌⊎◌, not, List, [], ◌∷◌}
use Rattle.std.proofs.Common.{◌++◌, All, Option, None, Some, Result, Ok, Err, count_by, filter, length, map, option_map}
use Rattle.std.proofs.Common.{unwrap_or, inl, inr, refl, sym, ◌∙◌, ap, arith, nat_eq}
use Rattle.std.specs.Prelude.{OnErr, slice_get}
use Rattle.std.specs.List.{AllByRecursion, find, list_any}
use Rattle.std.specs.Option.{option_or}
use Rattle.std.proofs.Math.Bool.{beq}
use Rattle.std.proofs.Math.ListN.{set}
use Rattle.std.proofs.lemmas.Bool.{cases_Bool, false≢true}
use Rattle.std.proofs.lemmas.Bool.Decides.{nat_tests}
use Rattle.std.proofs.lemmas.Option.{slice_get_within}
use Rattle.admit_core.proofs.Tests.{count_implied}

pub and_false : (b : Bool) → (b && false) ≡ false
and_false true = refl
and_false false = refl

pub and_true : (b : Bool) → (b && true) ≡ b
and_true true = refl
and_true false = refl

pub is_and_true : (b : Bool) → b ≡ (b && true)
is_and_true true = refl
is_and_true false = refl

pub and_not : (b : Bool) → (b && not b) ≡ false
and_not true = refl
and_not false = refl

pub or_false : (b : Bool) → (b || false) ≡ b
or_false true = refl
or_false false = refl

pub or_true : (b : Bool) → (b || true) ≡ true
or_true true = refl
or_true false = refl

pub or_last : (a b : Bool) → (a || (b || false)) ≡ (a || b)
or_last true b = refl
or_last false true = refl
or_last false false = refl

pub and_assoc : (a b c : Bool) → (a && (b && c)) ≡ ((a && b) && c)
and_assoc true b c = refl
and_assoc false b c = refl

pub turn_and : (a b c : Bool) → (a && (b && c)) ≡ ((b && a) && c)
turn_and true true c = refl
turn_and true false c = refl
turn_and false true c = refl
turn_and false false c = refl

pub middle_false : (a b c : Bool) → b ≡ false → (a && b && c) ≡ false
middle_false true b c fails = rw fails refl
middle_false false b c fails = refl

-- two tests that follow from each other
pub same_test : (a b : Bool) → (a ≡ true → b ≡ true) → (b ≡ true → a ≡ true) → a ≡ b
same_test true b there back = sym (there refl)
same_test false true there back = back refl
same_test false false there back = refl

pub unlike : (a b : Bool) → not (beq a b) ≡ true → b ≡ not a
unlike true true t = absurd (false≢true t)
unlike true false t = refl
unlike false true t = refl
unlike false false t = absurd (false≢true t)

pub alike : (a b : Bool) → not (beq a b) ≡ false → a ≡ b
alike true true t = refl
alike true false t = absurd (false≢true (sym t))
alike false true t = absurd (false≢true (sym t))
alike false false t = refl

-- what waits and is behind no bar is open
pub waits_open : (waits behind : Bool) → waits ≡ true → behind ≡ false → (waits && not (waits && behind)) ≡ true
waits_open true false is none = refl
waits_open true true is none = absurd (false≢true (sym none))
waits_open false behind is none = absurd (false≢true is)

pub nat_eq_sym : (m n : ℕ) → nat_eq m n ≡ nat_eq n m
nat_eq_sym m n = grind (arith, nat_tests)

pub zero_plus : (n : ℕ) → 0 + n ≡ n
zero_plus n = omega arith

pub none_or_none : {X : Type 0} {a b : Option X} → a ≡ None → b ≡ None → option_or a b ≡ None
none_or_none {X} {a} {b} e f = ap (λ o. option_or o b) e ∙ f

pub none_or : {X : Type 0} (a b : Option X) → option_or a b ≡ None → (a ≡ None) × (b ≡ None)
none_or None b e = (refl, e)
none_or (Some x) b e = absurd (cc)

pub mapped_none : {X Y : Type 0} (f : X → Y) (o : Option X) → option_map f o ≡ None → o ≡ None
mapped_none f None e = refl
mapped_none f (Some x) e = absurd (cc)

pub on_err : {T E P : Type 0} (r : Result T E) → P → OnErr r P
on_err (Ok x) p = tt
on_err (Err e) p = p

pub any-map : {X Y : Type 0} (p : Y → Bool) (f : X → Y) (xs : List X)
    → list_any p (map f xs) ≡ list_any (λ x. p (f x)) xs
any-map p f [] = refl
any-map p f (x ∷ xs) = ap (λ b. p (f x) || b) (any-map p f xs)

pub any-filter : {X : Type 0} (p q : X → Bool) (xs : List X) → list_any p (filter q xs) ≡ list_any (λ x. q x && p x) xs
any-filter p q [] = refl
any-filter p q (x ∷ xs) =
    elim (cases_Bool (q x)) [
      | inl kept ↦ rw kept (ap (λ b. p x || b) (any-filter p q xs))
      | inr dropped ↦ rw dropped (any-filter p q xs)
    ]

pub any_none : {X : Type 0} (p : X → Bool) → ((x : X) → p x ≡ false) → (xs : List X) → list_any p xs ≡ false
any_none p none [] = refl
any_none p none (x ∷ xs) = rw (none x) (any_none p none xs)

pub filter_none : {X : Type 0} (p : X → Bool) (xs : List X) → All (λ x. p x ≡ false) xs → filter p xs ≡ []
filter_none p [] none = refl
filter_none p (x ∷ xs) none = rw (none 0 x (omega arith)) (filter_none p xs (λ k d lt. none (suc k) d (omega arith)))

-- what holds of the numbers of a list holds of those that pass a test
pub all-filter : (P : ℕ → Type 0) (p : ℕ → Bool) (ns : List ℕ) → AllByRecursion P ns → AllByRecursion P (filter p ns)
all-filter P p [] all = all
all-filter P p (n ∷ ns) all =
    elim (p n) as (λ b. AllByRecursion P (cond b (n ∷ filter p ns) (filter p ns))) [
      | true ↦ (all.0, all-filter P p ns all.1)
      | false ↦ all-filter P p ns all.1
    ]

-- two tests, or two functions, that agree everywhere
pub any_same : {X : Type 0} (p q : X → Bool) → ((x : X) → p x ≡ q x) → (xs : List X) → list_any p xs ≡ list_any q xs
any_same p q same [] = refl
any_same p q same (x ∷ xs) = rw (same x, any_same p q same xs) refl

pub filter_same : {X : Type 0} (p q : X → Bool) → ((x : X) → p x ≡ q x) → (xs : List X) → filter p xs ≡ filter q xs
filter_same p q same [] = refl
filter_same p q same (x ∷ xs) = rw (same x, filter_same p q same xs) refl

pub find_same : {X : Type 0} (p q : X → Bool) → ((x : X) → p x ≡ q x) → (xs : List X) → find p xs ≡ find q xs
find_same p q same [] = refl
find_same p q same (x ∷ xs) = rw (same x, find_same p q same xs) refl

pub count_same : {X : Type 0} (p q : X → Bool) → ((x : X) → p x ≡ q x) → (xs : List X) → count_by p xs ≡ count_by q xs
count_same p q same xs = omega (
  arith,
  count_implied p q (λ x t. sym (same x) ∙ t) xs,
  count_implied q p
      (λ x t. same x ∙ t) xs,
)

pub map_same : {X Y : Type 0} (f g : X → Y) → ((x : X) → f x ≡ g x) → (xs : List X) → map f xs ≡ map g xs
map_same f g same [] = refl
map_same f g same (x ∷ xs) = rw (same x, map_same f g same xs) refl

-- an element of a list in which one is set, or of one that has one more, or at the seam of two
pub get_set_here : {X : Type 0} (xs : List X) (i : ℕ) (x y : X) → slice_get (set xs i x) i ≡ Some y → x ≡ y
get_set_here [] i x y at = absurd (omega (arith, slice_get_within {A = _} [] i y at))
get_set_here (z ∷ xs) zero x y at = ap (λ o. unwrap_or o x) at
get_set_here (z ∷ xs) (suc i) x y at = get_set_here xs i x y at

pub get_set_other : {X : Type 0} (xs : List X) (i j : ℕ) (x y : X) → j ≢ i → slice_get (set xs i x) j ≡ Some y
    → slice_get xs j ≡ Some y
get_set_other [] i j x y ne at = at
get_set_other (z ∷ xs) zero zero x y ne at = absurd (ne refl)
get_set_other (z ∷ xs) zero (suc j) x y ne at = at
get_set_other (z ∷ xs) (suc i) zero x y ne at = at
get_set_other (z ∷ xs) (suc i) (suc j) x y ne at = get_set_other xs i j x y (λ e. ne (ap suc e)) at

pub get_push : {X : Type 0} (xs : List X) (x y : X) (h : ℕ) → slice_get (xs ++ x ∷ []) h ≡ Some y
    → (slice_get xs h ≡ Some y) ⊎ (x ≡ y)
get_push [] x y zero at = inr (ap (λ o. unwrap_or o x) at)
get_push [] x y (suc h) at = absurd (omega (arith, slice_get_within (x ∷ []) (suc h) y at))
get_push (z ∷ xs) x y zero at = inl at
get_push (z ∷ xs) x y (suc h) at = get_push xs x y h at

pub get_seam : (xs ys : List ℕ) (x : ℕ) → slice_get (xs ++ x ∷ ys) (length xs) ≡ Some x
get_seam [] ys x = refl
get_seam (z ∷ xs) ys x = get_seam xs ys x
