-- Where the first that passes a test stands, and which one it is.
use Rattle.std.proofs.Common.{◌≡◌, ℕ, ◌<◌, ◌≤◌, suc, Bool, true, false, nat_eq, nat_lt, List, [], ◌∷◌, length, get_or}
use Rattle.std.proofs.Common.{find, position, Some, unwrap_or, refl, sym, ap, ◌∙◌, arith}
use Rattle.std.specs.List.{list_any, position_or_len}
use Rattle.std.proofs.lemmas.Bool.Decides.{nat_tests}
use Rattle.std.proofs.lemmas.List.Folds.{find_at}
use Rattle.std.proofs.lemmas.List.Quantifiers.{position-Some}
use Rattle.std.proofs.lemmas.Option.{slice_get-get_or}
use Rattle.admit_core.specs.Lists.{is_among}
use Rattle.admit_core.specs.Standing.{place_of}
use Rattle.dossier_check.proofs.Firsts.{one_passes, none_passes, position-none}

pub nat_eq_sound : (m n : ℕ) → nat_eq m n ≡ true → m ≡ n
nat_eq_sound m n e = grind (arith, nat_tests)

pub nat_eq_self : (n : ℕ) → nat_eq n n ≡ true
nat_eq_self n = grind (arith, nat_tests)

pub nat_eq_same : (m n : ℕ) → m ≡ n → nat_eq m n ≡ true
nat_eq_same m n e = grind (arith, nat_tests)

module _ {X : Type 0} (p : X → Bool) where
  pub position-any : (xs : List X) → list_any p xs ≡ true → position p xs ≡ Some (position_or_len p xs)
  position-any xs any =
      let lt : position_or_len p xs < length xs = one_passes p xs any in
      let within : nat_lt (position_or_len p xs) (length xs) ≡ true = grind arith in
      rw within refl

  -- the place, or the number of places where none passes
  pub unwrap_or-position : (xs : List X) → unwrap_or (position p xs) (length xs) ≡ position_or_len p xs
  unwrap_or-position xs = by (list_any p xs) refl
    where
      by : (b : Bool) → list_any p xs ≡ b → unwrap_or (position p xs) (length xs) ≡ position_or_len p xs
      by true any = rw (position-any xs any) refl
      by false none = rw (position-none p xs none, none_passes p xs none) refl

  pub find-any : (xs : List X) (d : X) → list_any p xs ≡ true → find p xs ≡ Some (get_or xs (position_or_len p xs) d)
  find-any xs d any = find_at p xs ∙ slice_get-get_or xs (position_or_len p xs) d (one_passes p xs any)

  pub passes_there : (xs : List X) (d : X) → list_any p xs ≡ true → p (get_or xs (position_or_len p xs) d) ≡ true
  passes_there xs d any = (position-Some p xs (position_or_len p xs) d (position-any xs any)).1

  -- one that was found: it stands at a place, and it passes
  pub record IsFound (xs : List X) (x : X) : Type 0 where
    pub place : ℕ
    pub within : place < length xs
    pub is : (d : X) → get_or xs place d ≡ x
    pub passes : p x ≡ true

  pub found : (xs : List X) (x : X) → find p xs ≡ Some x → IsFound xs x
  found [] x e = cc
  found (y ∷ ys) x e = by (p y) refl (found ys x)
    where
      by : (b : Bool) → p y ≡ b → (find p ys ≡ Some x → IsFound ys x) → IsFound (y ∷ ys) x
      by true f rest =
          let same : y ≡ x = cc (rw f at e) in
          record { place = 0; within = omega arith; is = λ d. same; passes = ap p (sym same) ∙ f }
      by false f rest =
          let later : IsFound ys x = rest (rw f at e) in
          record { place = suc later.place; within = omega (arith, later.within); is = later.is; passes = later.passes }

  pub any-find : (xs : List X) (x : X) → find p xs ≡ Some x → list_any p xs ≡ true
  any-find [] x e = cc
  any-find (y ∷ ys) x e = by (p y) refl (any-find ys x)
    where
      by : (b : Bool) → p y ≡ b → (find p ys ≡ Some x → list_any p ys ≡ true) → list_any p (y ∷ ys) ≡ true
      by true f rest = rw f refl
      by false f rest = rw f (rest (rw f at e))

  pub any_some : (xs : List X) → list_any p xs ≡ true → (x : X) × (find p xs ≡ Some x)
  any_some [] e = cc
  any_some (x ∷ xs) e = by (p x) refl (any_some xs)
    where
      by : (b : Bool) → p x ≡ b → (list_any p xs ≡ true → (y : X) × (find p xs ≡ Some y))
          → (y : X) × (find p (x ∷ xs) ≡ Some y)
      by true f rest = (x, rw f refl)
      by false f rest = let later = rest (rw f at e) in (later.0, rw f later.1)

module _ (ids : List ℕ) where
  -- an id that is there stands at its place
  pub at_place : (id : ℕ) (d : ℕ) → is_among id ids ≡ true → get_or ids (place_of ids id) d ≡ id
  at_place id d known = sym (nat_eq_sound id (get_or ids (place_of ids id) d) (passes_there (nat_eq id) ids d known))

  pub place_within : (id : ℕ) → is_among id ids ≡ true → place_of ids id < length ids
  place_within id known = one_passes (nat_eq id) ids known

  pub same_place : (a b : ℕ) → is_among a ids ≡ true → is_among b ids ≡ true → place_of ids a ≡ place_of ids b → a ≡ b
  same_place a b known_a known_b same = sym (at_place a 0 known_a) ∙ ap (λ i. get_or ids i 0) same
      ∙ at_place b 0 known_b

  -- a place within is that of an id that is there, and past the end there is none
  pub placed_within : (id place : ℕ) → place ≡ place_of ids id → place < length ids
      → position (nat_eq id) ids ≡ Some place
  placed_within id place same lt =
      let within : nat_lt (place_of ids id) (length ids) ≡ true = grind (arith, nat_tests) in
      rw within (ap Some (sym same))

  pub none_past : (id : ℕ) → length ids ≤ place_of ids id → is_among id ids ≡ false
  none_past id past = by (is_among id ids) refl
    where
      by : (b : Bool) → is_among id ids ≡ b → is_among id ids ≡ false
      by true there = absurd (omega (arith, past, place_within id there))
      by false none = none

  pub there_within : (id : ℕ) → place_of ids id < length ids → is_among id ids ≡ true
  there_within id lt = by (is_among id ids) refl
    where
      by : (b : Bool) → is_among id ids ≡ b → is_among id ids ≡ true
      by true there = there
      by false none = absurd (omega (arith, lt, none_passes (nat_eq id) ids none))
