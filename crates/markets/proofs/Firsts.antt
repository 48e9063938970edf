-- The first of a list that passes, and those before it.
use Rattle.std.proofs.Common.{ℕ, zero, suc, ◌+◌, ◌≤◌, ◌<◌, ◌≡◌, Bool, true, false, cond, List, [], ◌∷◌, length}
use Rattle.std.proofs.Common.{get_or, inl, inr, refl, sym, ◌∙◌, ap, subst, arith, nat_eq, nat_lt}
use Rattle.std.specs.Prelude.{Option, Some, None, find, position}
use Rattle.std.specs.List.{list_any, list_all, before_first, position_or_len, range_with_len}
use Rattle.std.proofs.lemmas.Bool.{cases_Bool, cases_eq, and_parts, or_cases, or_left, or_right, or_from, eqb-true}
use Rattle.std.proofs.lemmas.Bool.{eq-eqb, lt-ltb, false≢true}
use Rattle.std.proofs.lemmas.List.Sums.{position_or_len_is}
use Rattle.admit_core.specs.Lists.{is_among}
use Rattle.markets.specs.Matchings.{is_at}

-- what stands in a range
pub among_range : (q a n : ℕ) → is_among q (range_with_len a n) ≡ true → (a ≤ q) × (q < a + n)
among_range q a zero t = absurd (false≢true t)
among_range q a (suc n) t =
    elim (or_cases (nat_eq q a) (is_among q (range_with_len (a + 1) n)) t) [
      | inl here ↦ let same = eqb-true q a here in (omega (arith, same), omega (arith, same))
      | inr later ↦ let rest =
          among_range q (a + 1) n later in (omega (arith, rest.0), omega (arith, rest.1))
    ]

pub range_has : (q a n : ℕ) → a ≤ q → q < a + n → is_among q (range_with_len a n) ≡ true
range_has q a zero le lt = absurd (omega (arith, le, lt))
range_has q a (suc n) le lt =
    elim (cases_eq q a) [
      | inl same ↦ or_left (nat_eq q a) (is_among q (range_with_len (a + 1) n)) (eq-eqb q a same)
      | inr other ↦
          or_right (nat_eq q a) (is_among q (range_with_len (a + 1) n))
          (range_has q (a + 1) n (omega (arith, le, other)) (omega (arith, lt)))
    ]

-- what holds of all holds of one
pub one_of_all : (t : ℕ → Bool) (q : ℕ) (xs : List ℕ) → list_all t xs ≡ true
    → is_among q xs ≡ true → t q ≡ true
one_of_all t q [] all among = absurd (false≢true among)
one_of_all t q (x ∷ xs) all among =
    let parts = and_parts (t x) (list_all t xs) all in
    elim (or_cases (nat_eq q x) (is_among q xs) among) [
      | inl here ↦ ap t (eqb-true q x here) ∙ parts.0
      | inr later ↦ one_of_all t q xs parts.1 later
    ]

-- and where each of them passes, all do
pub all_of : (t : ℕ → Bool) (xs : List ℕ) → ((q : ℕ) → is_among q xs ≡ true → t q ≡ true)
    → list_all t xs ≡ true
all_of t [] each = refl
all_of t (x ∷ xs) each =
    rw (each x (or_left (nat_eq x x) (is_among x xs) (eq-eqb x x refl)))
    (all_of t xs (λ q among. each q (or_right (nat_eq q x) (is_among q xs) among)))

-- where each fails, none passes
pub none_of : (t : ℕ → Bool) (xs : List ℕ) → ((q : ℕ) → is_among q xs ≡ true → t q ≡ false)
    → list_any t xs ≡ false
none_of t [] fails = refl
none_of t (x ∷ xs) fails =
    or_from (t x) (list_any t xs)
    (fails x (or_left (nat_eq x x) (is_among x xs) (eq-eqb x x refl)))
    (none_of t xs (λ q among. fails q (or_right (nat_eq q x) (is_among q xs) among)))

-- one that passes is enough
pub any_of : (t : ℕ → Bool) (q : ℕ) (xs : List ℕ) → is_among q xs ≡ true → t q ≡ true
    → list_any t xs ≡ true
any_of t q [] among passes = absurd (false≢true among)
any_of t q (x ∷ xs) among passes =
    elim (or_cases (nat_eq q x) (is_among q xs) among) [
      | inl here ↦ or_left (t x) (list_any t xs) (ap t (sym (eqb-true q x here)) ∙ passes)
      | inr later ↦ or_right (t x) (list_any t xs) (any_of t q xs later passes)
    ]

-- what stands before the first that passes
pub before_yes : (u : ℕ → Bool) (x : ℕ) (xs : List ℕ) → u x ≡ true → before_first u (x ∷ xs) ≡ []
before_yes u x xs passes = rw passes refl

pub before_no : (u : ℕ → Bool) (x : ℕ) (xs : List ℕ) → u x ≡ false → before_first u (x ∷ xs)
    ≡ x ∷ before_first u xs
before_no u x xs fails =
    let k : ℕ = position_or_len u xs in
    let e : 1 + k ≡ suc k = omega arith in
    rw (fails, e) refl

-- it is one of the list, and fails
pub among_before : (u : ℕ → Bool) (q : ℕ) (xs : List ℕ) → is_among q (before_first u xs) ≡ true
    → (is_among q xs ≡ true) × (u q ≡ false)
among_before u q [] t = absurd (false≢true t)
among_before u q (x ∷ xs) t =
    elim (cases_Bool (u x)) [
      | inl passes ↦ absurd (false≢true (rw (before_yes u x xs passes) at t))
      | inr fails ↦
          elim (or_cases (nat_eq q x) (is_among q (before_first u xs))
          (rw (before_no u x xs fails) at t)) [
            | inl here ↦ (
              or_left (nat_eq q x) (is_among q xs) here,
              ap u
                  (eqb-true q x here) ∙ fails,
            )
            | inr later ↦ let rest =
                among_before u q xs later in (or_right (nat_eq q x) (is_among q xs) rest.0, rest.1)
          ]
    ]

-- what stands before the one that is found fails
pub fails_before : (t : ℕ → Bool) (q : ℕ) (xs : List ℕ)
    → is_among q (before_first (λ p. is_at p (find t xs)) xs) ≡ true → t q ≡ false
fails_before t q [] among = absurd (false≢true among)
fails_before t q (x ∷ xs) among =
    let P : Option ℕ → Type 0 = λ o. is_among q (before_first (λ p. is_at p o) (x ∷ xs)) ≡ true in
    elim (cases_Bool (t x)) [
      | inl passes ↦
          let found : find t (x ∷ xs) ≡ Some x = rw passes refl in
          let here : is_among q (before_first (λ p. nat_eq p x) (x ∷ xs))
          ≡ true = subst P found among in
          absurd (false≢true (rw (before_yes (λ p. nat_eq p x) x xs (eq-eqb x x refl)) at here))
      | inr fails ↦
          let u : ℕ → Bool = λ p. is_at p (find t xs) in
          let later : find t (x ∷ xs) ≡ find t xs = rw fails refl in
          let there : is_among q (before_first u (x ∷ xs)) ≡ true = subst P later among in
          elim (cases_Bool (u x)) [
            | inl passes ↦ absurd (false≢true (rw (before_yes u x xs passes) at there))
            | inr other ↦
                elim (or_cases (nat_eq q x) (is_among q (before_first u xs))
                (rw (before_no u x xs other) at there)) [
                  | inl here ↦ ap t (eqb-true q x here) ∙ fails
                  | inr further ↦ fails_before t q xs further
                ]
          ]
    ]

-- a place in a programme
pub at_place : (x : ℕ) (place : Option ℕ) → is_at x place ≡ true → place ≡ Some x
at_place x None h = absurd (false≢true h)
at_place x (Some p) h = ap Some (sym (eqb-true x p h))

-- a place at one that passes, before which all fail, is found; and so is none where all fail
pub found_at : (t : ℕ → Bool) (place : Option ℕ) (xs : List ℕ)
    → ((q : ℕ) → is_among q (before_first (λ p. is_at p place) xs) ≡ true → t q ≡ false)
    → ((p : ℕ) → place ≡ Some p → (is_among p xs ≡ true) × (t p ≡ true))
    → find t xs ≡ place
found_at t None [] fails passes = refl
found_at t (Some p) [] fails passes = absurd (false≢true (passes p refl).0)
found_at t place (x ∷ xs) fails passes =
    let u : ℕ → Bool = λ p. is_at p place in
    elim (cases_Bool (u x)) [
      | inl here ↦
          let same = at_place x place here in
          rw ((passes x same).1) (sym same)
      | inr other ↦
          let first : t x ≡ false = fails x
          (rw (before_no u x xs other)
          (or_left (nat_eq x x) (is_among x (before_first u xs)) (eq-eqb x x refl))) in
          rw first (found_at t place xs
          (λ q among. fails q (rw (before_no u x xs other)
          (or_right (nat_eq q x) (is_among q (before_first u xs)) among)))
          (λ p is.
          let both = passes p is in (
            elim (or_cases (nat_eq p x) (is_among p xs) both.0) [
              | inl same ↦
                  let at : is_at x place
                  ≡ true = ap (is_at x) is ∙ eq-eqb x p (sym (eqb-true p x same)) in
                  absurd (false≢true (sym other ∙ at))
              | inr later ↦ later
            ],
            both.1,
          )))
    ]

-- the first place of a list that passes
pub position_found : {X : Type 0} (test : X → Bool) (xs : List X) (i : ℕ) (d : X) → i < length xs
    → ((k : ℕ) → k < i → test (get_or xs k d) ≡ false)
    → test (get_or xs i d) ≡ true → position test xs ≡ Some i
position_found test xs i d lt fails passes =
    let first : position_or_len test xs
    ≡ i = position_or_len_is test xs i d (omega (arith, lt)) fails (λ h. passes) in
    let P : ℕ → Type 0 = λ k. cond (nat_lt k (length xs)) (Some k) None ≡ Some i in
    subst P (sym first) (rw (lt-ltb i (length xs) lt) refl)
