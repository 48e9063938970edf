-- Counts over a claim are counts over all wishes.
use Rattle.std.proofs.Common.{false, ℕ, ◌+◌, ◌≡◌, Bool, ◌&&◌, List, [], ◌∷◌, map, length, inl, inr, refl, ap, arith}
use Rattle.std.proofs.Common.{filter, suc, Some, count_by, subst, cond, zip}
use Rattle.std.specs.Prelude.{slice_get}
use Rattle.std.specs.List.{enumerate_from}
use Rattle.std.proofs.lemmas.Bool.{cases_Bool}
use Rattle.std.proofs.lemmas.List.Sums.{length-filter}

filter_claim : {X : Type 0} (t : X → Bool) (q : ℕ → Bool) (es : List X) (a : ℕ)
    → length (filter q (map (λ x. x.0) (filter (λ x. t x.1) (enumerate_from a es)))) ≡ length
    (filter (λ (x : ℕ × X). t x.1 && q x.0) (enumerate_from a es))
filter_claim t q [] a = refl
filter_claim t q (e ∷ es) a =
    let rest = filter_claim t q es (a + 1) in
    elim (cases_Bool (t e)) [
      | inl here ↦ rw here (elim (cases_Bool (q a)) [ inl counts ↦ rw counts (ap suc rest) | inr none ↦ rw none rest ])
      | inr other ↦ rw other rest
    ]

same_places : {X : Type 0} (p q : ℕ × X → Bool) (es : List X) (a : ℕ)
    → ((j : ℕ) (e : X) → slice_get es j ≡ Some e → p (a + j, e) ≡ q (a + j, e))
    → length (filter p (enumerate_from a es)) ≡ length (filter q (enumerate_from a es))
same_places p q [] a h = refl
same_places {X} p q (e ∷ es) a h =
    let P = λ (n : ℕ). p (n, e) ≡ q (n, e) in
    let first : p (a, e) ≡ q (a, e) = subst P (let z : a + 0 ≡ a = omega arith in z) (h 0 e refl) in
    let rest = same_places p q es (a + 1)
    (λ j f at. let Q = λ (n : ℕ). p (n, f) ≡ q (n, f) in subst Q
    (let z : a + suc j ≡ a + 1 + j = omega arith in z) (h (suc j) f at)) in
    elim (cases_Bool (q (a, e))) [
      | inl counts ↦ rw (first, counts) (ap suc rest)
      | inr none ↦ rw (first, none) rest
    ]

-- what passes a test of all wishes only in a claim is counted in the claim
pub count_claim : {X : Type 0} (t : X → Bool) (q : ℕ → Bool) (p : ℕ × X → Bool) (es : List X)
    → ((j : ℕ) (e : X) → slice_get es j ≡ Some e → p (j, e) ≡ (t e && q j))
    → count_by q (map (λ x. x.0) (filter (λ x. t x.1) (enumerate_from 0 es))) ≡ count_by p (enumerate_from 0 es)
count_claim {X} t q p es h =
    omega (
      arith,
      filter_claim t q es 0,
      same_places p (λ (x : ℕ × X). t x.1 && q x.0) es 0 (λ j e at.
          let P = λ (n : ℕ). p (n, e) ≡ (t e && q n) in
          subst P (let z : j ≡ 0 + j = omega arith in z) (h j e at)),
      length-filter q (map (λ x. x.0) (filter (λ (x : ℕ × X). t x.1) (enumerate_from 0 es))),
      length-filter p (enumerate_from 0 es),
    )

filter_entries : {X Y : Type 0} (r : ℕ → X → Bool) (p : ℕ × (X × Y) → Bool) (xs : List X) (ys : List Y)
    (a : ℕ) → length ys ≡ length xs
    → ((j : ℕ) (e : X × Y) → slice_get (zip xs ys) j ≡ Some e → p (a + j, e) ≡ r (a + j) e.0)
    → length (filter (λ (x : ℕ × X). r x.0 x.1) (enumerate_from a xs))
    ≡ length (filter p (enumerate_from a (zip xs ys)))
filter_entries r p [] ys a long h = refl
filter_entries r p (x ∷ xs) [] a long h = absurd (omega arith)
filter_entries {X} {Y} r p (x ∷ xs) (y ∷ ys) a long h =
    let P = λ (n : ℕ). p (n, (x, y)) ≡ r n x in
    let first : p (a, (x, y)) ≡ r a x = subst P (let z : a + 0 ≡ a = omega arith in z) (h 0 (x, y) refl) in
    let rest = filter_entries r p xs ys (a + 1) (omega arith) (λ j e at.
    let Q = λ (n : ℕ). p (n, e) ≡ r n e.0 in
    subst Q (let z : a + suc j ≡ a + 1 + j = omega arith in z) (h (suc j) e at)) in
    elim (cases_Bool (r a x)) [
      | inl counts ↦ rw (first, counts) (ap suc rest)
      | inr none ↦ rw (first, none) rest
    ]

-- what a test of entries says by their first parts alone is counted over these
pub count_entries : {X Y : Type 0} (r : ℕ → X → Bool) (p : ℕ × (X × Y) → Bool) (xs : List X) (ys : List Y)
    → length ys ≡ length xs
    → ((j : ℕ) (e : X × Y) → slice_get (zip xs ys) j ≡ Some e → p (j, e) ≡ r j e.0)
    → count_by (λ (x : ℕ × X). r x.0 x.1) (enumerate_from 0 xs) ≡ count_by p (enumerate_from 0 (zip xs ys))
count_entries {X} {Y} r p xs ys long h =
    omega (
      arith,
      filter_entries r p xs ys 0 long (λ j e at.
          let P = λ (n : ℕ). p (n, e) ≡ r n e.0 in
          subst P (let z : j ≡ 0 + j = omega arith in z) (h j e at)),
      length-filter (λ (x : ℕ × X). r x.0 x.1) (enumerate_from 0 xs),
      length-filter p (enumerate_from 0 (zip xs ys)),
    )

filter_nothing : {X : Type 0} (p : ℕ × X → Bool) (es : List X) (a : ℕ)
    → ((j : ℕ) (e : X) → slice_get es j ≡ Some e → p (a + j, e) ≡ false) → length (filter p (enumerate_from a es)) ≡ 0
filter_nothing p [] a h = refl
filter_nothing p (e ∷ es) a h =
    let P = λ (n : ℕ). p (n, e) ≡ false in
    let first : p (a, e) ≡ false = subst P (let z : a + 0 ≡ a = omega arith in z) (h 0 e refl) in
    rw first (filter_nothing p es (a + 1)
    (λ j f at. let Q = λ (n : ℕ). p (n, f) ≡ false in subst Q
    (let z : a + suc j ≡ a + 1 + j = omega arith in z) (h (suc j) f at)))

pub count_nothing : {X : Type 0} (p : ℕ × X → Bool) (es : List X)
    → ((j : ℕ) (e : X) → slice_get es j ≡ Some e → p (j, e) ≡ false) → count_by p (enumerate_from 0 es) ≡ 0
count_nothing p es h =
    omega (
      arith,
      length-filter p (enumerate_from 0 es),
      filter_nothing p es 0 (λ j e at.
          let P = λ (n : ℕ). p (n, e) ≡ false in
          subst P (let z : j ≡ 0 + j = omega arith in z) (h j e at)),
    )

filter_places : {X : Type 0} (t : X → Bool) (es : List X) (a : ℕ)
    → length (filter (λ (x : ℕ × X). t x.1) (enumerate_from a es)) ≡ length (filter t es)
filter_places t [] a = refl
filter_places t (e ∷ es) a =
    let rest = filter_places t es (a + 1) in
    elim (cases_Bool (t e)) [ inl passes ↦ rw passes (ap suc rest) | inr fails ↦ rw fails rest ]

-- a count over places that asks the elements alone
pub count_places : {X : Type 0} (t : X → Bool) (es : List X) (a : ℕ)
    → count_by (λ (x : ℕ × X). t x.1) (enumerate_from a es) ≡ count_by t es
count_places t es a = omega
    (arith, length-filter (λ (x : ℕ × _). t x.1) (enumerate_from a es), length-filter t es, filter_places t es a)

one_more : {X : Type 0} (p : ℕ × X → Bool) (e : X) (xs : List (ℕ × X)) (a : ℕ)
    → length (filter p ((a, e) ∷ xs)) ≡ cond (p (a, e)) 1 0 + length (filter p xs)
one_more p e xs a = elim (cases_Bool (p (a, e)))
    [ inl passes ↦ rw passes (omega arith) | inr fails ↦ rw fails (omega arith) ]

-- two counts that add up at each place
sums : {X : Type 0} (p q r : ℕ × X → Bool) (es : List X) (a : ℕ)
    → ((j : ℕ) (e : X) → slice_get es j ≡ Some e
    → cond (p (a + j, e)) 1 0 + cond (q (a + j, e)) 1 0 ≡ cond (r (a + j, e)) 1 0)
    → length (filter p (enumerate_from a es)) + length (filter q (enumerate_from a es))
    ≡ length (filter r (enumerate_from a es))
sums p q r [] a h = omega arith
sums p q r (e ∷ es) a h =
    let P = λ (n : ℕ). cond (p (n, e)) 1 0 + cond (q (n, e)) 1 0 ≡ cond (r (n, e)) 1 0 in
    let first : cond (p (a, e)) 1 0 + cond (q (a, e)) 1 0 ≡ cond (r (a, e)) 1 0 = subst P
    (let z : a + 0 ≡ a = omega arith in z) (h 0 e refl) in
    let rest = sums p q r es (a + 1) (λ j f at.
    let Q = λ (n : ℕ). cond (p (n, f)) 1 0 + cond (q (n, f)) 1 0 ≡ cond (r (n, f)) 1 0 in subst Q
    (let z : a + suc j ≡ a + 1 + j = omega arith in z) (h (suc j) f at)) in
    omega (
      arith,
      first,
      rest,
      one_more p e (enumerate_from (a + 1) es) a,
      one_more q e
          (enumerate_from (a + 1) es) a,
      one_more r e (enumerate_from (a + 1) es) a,
    )

pub count_sum : {X : Type 0} (p q r : ℕ × X → Bool) (es : List X)
    → ((j : ℕ) (e : X) → slice_get es j ≡ Some e → cond (p (j, e)) 1 0 + cond (q (j, e)) 1 0 ≡ cond (r (j, e)) 1 0)
    → count_by p (enumerate_from 0 es) + count_by q (enumerate_from 0 es) ≡ count_by r (enumerate_from 0 es)
count_sum p q r es h =
    omega (
      arith,
      sums p q r es 0 (λ j e at.
          let P = λ (n : ℕ). cond (p (n, e)) 1 0 + cond (q (n, e)) 1 0 ≡ cond (r (n, e)) 1 0 in
          subst P (let z : j ≡ 0 + j = omega arith in z) (h j e at)),
      length-filter p (enumerate_from 0 es),
      length-filter q (enumerate_from 0 es),
      length-filter r (enumerate_from 0 es),
    )

-- two tests that say the same at each place
pub count_alike : {X : Type 0} (p q : ℕ × X → Bool) (es : List X)
    → ((j : ℕ) (e : X) → slice_get es j ≡ Some e → p (j, e) ≡ q (j, e))
    → count_by p (enumerate_from 0 es) ≡ count_by q (enumerate_from 0 es)
count_alike p q es h =
    omega (
      arith,
      same_places p q es 0 (λ j e at.
          let P = λ (n : ℕ). p (n, e) ≡ q (n, e) in
          subst P (let z : j ≡ 0 + j = omega arith in z) (h j e at)),
      length-filter p (enumerate_from 0 es),
      length-filter q (enumerate_from 0 es),
    )
