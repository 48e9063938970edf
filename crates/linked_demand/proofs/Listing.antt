-- A list that takes up the numbers that pass a test, and is put in order at the end.
use Rattle.std.proofs.Common.{ℕ, ◌+◌, ◌≤◌, ◌<◌, ◌≡◌, Bool, true, false, ◌&&◌, ◌||◌, List, [], ◌∷◌, ◌++◌, length, take}
use Rattle.std.proofs.Common.{get_or, inl, inr, refl, sym, ◌∙◌, ap, arith, nat_eq, filter, suc, eqb, subst}
use Rattle.std.specs.List.{dedup, range_with_len, AllByRecursion}
use Rattle.std.specs.List.Sorted.{IsPermutation, IsSorted}
use Rattle.std.specs.Cmp.{both_ways}
use Rattle.std.specs.Ordering.{nat_cmp}
use Rattle.std.proofs.lemmas.Bool.{cases_Bool, eqb-true}
use Rattle.std.proofs.lemmas.Cmp.{nat_eq_equiv}
use Rattle.std.proofs.lemmas.List.{take_all}
use Rattle.std.proofs.lemmas.List.Folds.{list_any_more}
use Rattle.std.proofs.lemmas.List.Kept.{Contains-dedup_nat, Contains-from_dedup}
use Rattle.std.proofs.lemmas.List.Sorted.{list_any-IsPermutation}
use Rattle.std.proofs.lemmas.Map.Keys.{IsStrictlyIncreasing-dedup}
use Rattle.std.proofs.lemmas.Map.Views.{list_any-from_Contains, Contains-from_any}
use Rattle.admit_core.specs.Lists.{is_among}
use Rattle.admit_core.proofs.Plain.{or_false}
use Rattle.admit_core.proofs.Remaining.{among_push}
use Rattle.admit_core.proofs.Tests.{Ascends, same_members}
use Rattle.linked_demand.specs.Fronts.{ListsAlso}
use Rattle.linked_demand.proofs.PlaceOrder.{ascends-filter, ascends-range}

or_regroup : (a b c d : Bool) → (b || c) ≡ d → ((a || b) || c) ≡ (a || d)
or_regroup true b c d is = refl
or_regroup false b c d is = is

-- no number, and those of two tests
pub lists_none : (test : ℕ → Bool) (found : List ℕ) → ((k : ℕ) → test k ≡ false) → ListsAlso test found found
lists_none test found none k = sym (or_false (is_among k found)) ∙ ap (λ b. is_among k found || b) (sym (none k))

pub lists_then : (a b c : ℕ → Bool) (old now new : List ℕ) → ListsAlso a old now → ListsAlso b now new
    → ((k : ℕ) → (a k || b k) ≡ c k) → ListsAlso c old new
lists_then a b c old now new first second both k =
    second k ∙ ap (λ t. t || b k) (first k) ∙ or_regroup (is_among k old) (a k) (b k) (c k) (both k)

-- one number more of some that are gone along, where it passes and where it doesn't
abbrev pub passing : (ℕ → Bool) → List ℕ → ℕ → ℕ → Bool
passing q ks i k = is_among k (take i ks) && q k

kept_more : (q : ℕ → Bool) (k x : ℕ) (before : Bool) → q x ≡ true
    → ((before && q k) || nat_eq k x) ≡ ((before || nat_eq k x) && q k)
kept_more q k x before passes =
    elim (cases_Bool (nat_eq k x)) [
      | inl here ↦
          let own : q k ≡ true = ap q (eqb-true k x here) ∙ passes in
          rw (here, own) (or_last before)
      | inr other ↦ rw other (or_first before (q k))
    ]
  where
    or_last : (b : Bool) → ((b && true) || true) ≡ ((b || true) && true)
    or_last true = refl
    or_last false = refl

    or_first : (b c : Bool) → ((b && c) || false) ≡ ((b || false) && c)
    or_first true true = refl
    or_first true false = refl
    or_first false c = refl

left_more : (q : ℕ → Bool) (k x : ℕ) (before : Bool) → q x ≡ false → (before && q k) ≡ ((before || nat_eq k x) && q k)
left_more q k x before fails =
    elim (cases_Bool (nat_eq k x)) [
      | inl here ↦
          let own : q k ≡ false = ap q (eqb-true k x here) ∙ fails in
          rw (here, own) (none before)
      | inr other ↦ rw other (same before (q k))
    ]
  where
    none : (b : Bool) → (b && false) ≡ ((b || true) && false)
    none true = refl
    none false = refl

    same : (b c : Bool) → (b && c) ≡ ((b || false) && c)
    same true c = refl
    same false c = refl

pub lists_some : (q : ℕ → Bool) (ks : List ℕ) (i x : ℕ) (old now new : List ℕ) → i < length ks
    → x ≡ get_or ks i 0 → q x ≡ true
    → new ≡ now ++ x ∷ [] → ListsAlso (passing q ks i) old now → ListsAlso (passing q ks (i + 1)) old new
lists_some q ks i x old now new lt is passes new_is so_far k =
    ap (is_among k) new_is
    ∙ among_push k x now
    ∙ ap (λ b. b || nat_eq k x) (so_far k)
    ∙ or_regroup (is_among k old) (passing q ks i k) (nat_eq k x) (passing q ks (i + 1) k)
    (kept_more q k x (is_among k (take i ks)) passes
    ∙ ap (λ (y : ℕ). (is_among k (take i ks) || nat_eq k y) && q k) is
    ∙ ap (λ b. b && q k) (sym (list_any_more (nat_eq k) ks i 0 lt)))

pub lists_left : (q : ℕ → Bool) (ks : List ℕ) (i x : ℕ) (old now : List ℕ) → i < length ks
    → x ≡ get_or ks i 0 → q x ≡ false
    → ListsAlso (passing q ks i) old now → ListsAlso (passing q ks (i + 1)) old now
lists_left q ks i x old now lt is fails so_far k =
    so_far k
    ∙ ap (λ b. is_among k old || b)
    (left_more q k x (is_among k (take i ks)) fails
    ∙ ap (λ (y : ℕ). (is_among k (take i ks) || nat_eq k y) && q k) is
    ∙ ap (λ b. b && q k) (sym (list_any_more (nat_eq k) ks i 0 lt)))

pub lists_all : (q : ℕ → Bool) (ks : List ℕ) (i : ℕ) (old now : List ℕ) → length ks ≤ i
    → ListsAlso (passing q ks i) old now → ListsAlso (λ k. is_among k ks && q k) old now
lists_all q ks i old now le so_far k =
    so_far k ∙ ap (λ (js : List ℕ). is_among k old || (is_among k js && q k)) (take_all i ks le)

-- put in order, each once
once_among : (q : ℕ) (sorted : List ℕ) → is_among q (dedup eqb sorted) ≡ is_among q sorted
once_among q sorted =
    both_ways (is_among q (dedup eqb sorted)) (is_among q sorted)
    (λ t. list_any-from_Contains nat_eq_equiv q sorted (Contains-from_dedup eqb sorted q
    (Contains-from_any eqb-true q (dedup eqb sorted) t)))
    (λ t. list_any-from_Contains nat_eq_equiv q (dedup eqb sorted) (Contains-dedup_nat sorted q
    (Contains-from_any eqb-true q sorted t)))

above_too : (n m : ℕ) (ks : List ℕ) → n < m → AllByRecursion (λ k. m < k) ks → AllByRecursion (λ k. n < k) ks
above_too n m [] lt all = tt
above_too n m (k ∷ ks) lt all = (omega (arith, all.0), above_too n m ks lt all.1)

ascends_once : (sorted : List ℕ) → IsSorted nat_cmp sorted → Ascends (dedup eqb sorted)
ascends_once sorted in_order =
    let ks = dedup eqb sorted in
    rising ks (λ k lt.
    let e : k + 1 ≡ suc k = omega arith in
    let P = λ (j : ℕ). get_or ks k 0 < get_or ks j 0 in
    subst P e (IsStrictlyIncreasing-dedup sorted in_order k (omega (arith, lt))))
  where
    rising : (ks : List ℕ) → ((k : ℕ) → suc k < length ks → get_or ks k 0 < get_or ks (suc k) 0) → Ascends ks
    rising [] rises = tt
    rising (n ∷ []) rises = (tt, tt)
    rising (n ∷ m ∷ ks) rises =
        let lt : n < m = rises 0 (omega arith) in
        let later = rising (m ∷ ks) (λ k k_lt. rises (suc k) (omega (arith, k_lt))) in
        ((lt, above_too n m ks lt later.0), later)

-- a list of just those places below a count that pass a test, put in order, and each once
pub in_order_once : (q : ℕ → Bool) (n : ℕ) (found sorted once : List ℕ)
    → ((k : ℕ) → is_among k found ≡ is_among k (filter q (range_with_len 0 n)))
    → IsPermutation found sorted → IsSorted nat_cmp sorted → once ≡ dedup eqb sorted
    → once ≡ filter q (range_with_len 0 n)
in_order_once q n found sorted once members moved in_order is =
    is
    ∙ same_members (dedup eqb sorted) (filter q (range_with_len 0 n)) (ascends_once sorted in_order)
    (ascends-filter q (range_with_len 0 n) (ascends-range 0 n))
    (λ k. once_among k sorted ∙ sym (list_any-IsPermutation (nat_eq k) found sorted moved) ∙ members k)
