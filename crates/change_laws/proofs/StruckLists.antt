-- Lists in which one mark is another, that passes no test.
use Rattle.std.proofs.Common.{ℕ, suc, zero, ◌+◌, ◌<◌, ◌≡◌, ◌≢◌, Bool, false, filter, List, [], ◌∷◌, length, map, get_or}
use Rattle.std.proofs.Common.{refl, ◌∙◌, ap, arith, set, zip, inl, inr}
use Rattle.std.specs.List.{enumerate_from, find}
use Rattle.std.proofs.lemmas.Bool.{cases_Bool}
use Rattle.admit_core.specs.declared.state.Mark.{Mark}

-- the pair at a place, and the same with the other mark, pass no test
pub record IsNone {A : Type 0} (f : A × Mark → Bool) (ps : List A) (ms : List Mark) (k : ℕ) (g : Mark) : Type 0 where
  pub first : A
  pub mark : Mark
  pub within : k < length ps
  pub marked : k < length ms
  pub here : get_or ps k first ≡ first
  pub there : get_or ms k mark ≡ mark
  pub fails : f (first, mark) ≡ false
  pub fails_too : f (first, g) ≡ false

none_later : {A : Type 0} (f : A × Mark → Bool) (a : A) (ps : List A) (m : Mark) (ms : List Mark) (k : ℕ) (g : Mark)
    → IsNone f (a ∷ ps) (m ∷ ms) (suc k) g → IsNone f ps ms k g
none_later f a ps m ms k g none = record {
  first = none.first;
  mark = none.mark;
  within = omega (arith, none.within);
  marked = omega (arith, none.marked);
  here = none.here;
  there = none.there;
  fails = none.fails;
  fails_too = none.fails_too;
}

none_first : {A : Type 0} (f : A × Mark → Bool) (a : A) (ps : List A) (m : Mark) (ms : List Mark) (g : Mark)
    → IsNone f (a ∷ ps) (m ∷ ms) 0 g → (f (a, m) ≡ false) × (f (a, g) ≡ false)
none_first f a ps m ms g none =
    let first : a ≡ none.first = none.here in
    let mark : m ≡ none.mark = none.there in (
      (λ i. f (first i, mark i)) ∙ none.fails,
      ap (λ x. f (x, g)) first ∙ none.fails_too,
    )

pub filter_struck : {A : Type 0} (f : A × Mark → Bool) (ps : List A) (ms : List Mark) (k : ℕ) (g : Mark)
    → IsNone f ps ms k g → filter f (zip ps (set ms k g)) ≡ filter f (zip ps ms)
filter_struck f [] ms k g none = absurd (omega (arith, none.within))
filter_struck f (a ∷ ps) [] k g none = absurd (omega (arith, none.marked))
filter_struck f (a ∷ ps) (m ∷ ms) zero g none =
    let both = none_first f a ps m ms g none in
    rw (both.0, both.1) refl
filter_struck f (a ∷ ps) (m ∷ ms) (suc k) g none =
    let rest = filter_struck f ps ms k g (none_later f a ps m ms k g none) in
    elim (cases_Bool (f (a, m))) [
      | inl passes ↦ rw passes (ap (λ l. (a, m) ∷ l) rest)
      | inr fails ↦ rw fails rest
    ]

pub placed_struck : {A : Type 0} (f : A × Mark → Bool) (n : ℕ) (ps : List A) (ms : List Mark) (k : ℕ) (g : Mark)
    → IsNone f ps ms k g
    → filter (λ (x : ℕ × (A × Mark)). f x.1) (enumerate_from n (zip ps (set ms k g)))
    ≡ filter (λ (x : ℕ × (A × Mark)). f x.1) (enumerate_from n (zip ps ms))
placed_struck f n [] ms k g none = absurd (omega (arith, none.within))
placed_struck f n (a ∷ ps) [] k g none = absurd (omega (arith, none.marked))
placed_struck f n (a ∷ ps) (m ∷ ms) zero g none =
    let both = none_first f a ps m ms g none in
    rw (both.0, both.1) refl
placed_struck f n (a ∷ ps) (m ∷ ms) (suc k) g none =
    let rest = placed_struck f (n + 1) ps ms k g (none_later f a ps m ms k g none) in
    elim (cases_Bool (f (a, m))) [
      | inl passes ↦ rw passes (ap (λ l. (n, (a, m)) ∷ l) rest)
      | inr fails ↦ rw fails rest
    ]

pub found_struck : {A : Type 0} (f : A × Mark → Bool) (n : ℕ) (ps : List A) (ms : List Mark) (k : ℕ) (g : Mark)
    → IsNone f ps ms k g
    → find (λ (x : ℕ × (A × Mark)). f x.1) (enumerate_from n (zip ps (set ms k g)))
    ≡ find (λ (x : ℕ × (A × Mark)). f x.1) (enumerate_from n (zip ps ms))
found_struck f n [] ms k g none = absurd (omega (arith, none.within))
found_struck f n (a ∷ ps) [] k g none = absurd (omega (arith, none.marked))
found_struck f n (a ∷ ps) (m ∷ ms) zero g none =
    let both = none_first f a ps m ms g none in
    rw (both.0, both.1) refl
found_struck f n (a ∷ ps) (m ∷ ms) (suc k) g none =
    let rest = found_struck f (n + 1) ps ms k g (none_later f a ps m ms k g none) in
    elim (cases_Bool (f (a, m))) [
      | inl passes ↦ rw passes refl
      | inr fails ↦ rw fails rest
    ]

-- marks that are given by both, where the other mark stays as it is
pub map_struck : {A : Type 0} (f : A × Mark → Mark) (ps : List A) (ms : List Mark) (k : ℕ) (g : Mark)
    → ((a : A) → f (a, g) ≡ g) → map f (zip ps (set ms k g)) ≡ set (map f (zip ps ms)) k g
map_struck f [] ms k g stays = refl
map_struck f (a ∷ ps) [] k g stays = refl
map_struck f (a ∷ ps) (m ∷ ms) zero g stays = ap (λ (x : Mark). x ∷ map f (zip ps ms)) (stays a)
map_struck f (a ∷ ps) (m ∷ ms) (suc k) g stays = ap (λ l. f (a, m) ∷ l) (map_struck f ps ms k g stays)

-- two lists of marks with the same other mark at one place
pub both_struck : (f : Mark × Mark → Bool) (n : ℕ) (ms ns : List Mark) (k : ℕ) (g : Mark) → k < length ms
    → k < length ns → f (g, g) ≡ false → f (get_or ms k g, get_or ns k g) ≡ false
    → filter (λ (x : ℕ × (Mark × Mark)). f x.1) (enumerate_from n (zip (set ms k g) (set ns k g)))
    ≡ filter (λ (x : ℕ × (Mark × Mark)). f x.1) (enumerate_from n (zip ms ns))
both_struck f n [] ns k g within marked same fails = absurd (omega (arith, within))
both_struck f n (m ∷ ms) [] k g within marked same fails = absurd (omega (arith, marked))
both_struck f n (m ∷ ms) (x ∷ ns) zero g within marked same fails =
    let here : f (m, x) ≡ false = fails in
    rw (here, same) refl
both_struck f n (m ∷ ms) (x ∷ ns) (suc k) g within marked same fails =
    let rest = both_struck f (n + 1) ms ns k g (omega (arith, within)) (omega (arith, marked)) same fails in
    elim (cases_Bool (f (m, x))) [
      | inl passes ↦ rw passes (ap (λ l. (n, (m, x)) ∷ l) rest)
      | inr other ↦ rw other rest
    ]

pub set_set : (ms : List Mark) (j k : ℕ) (x y : Mark) → j ≢ k → set (set ms j x) k y ≡ set (set ms k y) j x
set_set [] j k x y other = refl
set_set (m ∷ ms) zero zero x y other = absurd (other refl)
set_set (m ∷ ms) zero (suc k) x y other = refl
set_set (m ∷ ms) (suc j) zero x y other = refl
set_set (m ∷ ms) (suc j) (suc k) x y other =
    ap (λ l. m ∷ l) (set_set ms j k x y (λ same. other (ap suc same)))
