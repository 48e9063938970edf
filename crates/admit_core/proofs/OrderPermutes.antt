-- A call order has its ranking's candidates, in an order of its own.
use Rattle.std.proofs.Common.{ℕ, zero, suc, ◌≤◌, ◌<◌, ◌≡◌, Bool, false, not, List, [], ◌∷◌, ◌++◌, map, length, take}
use Rattle.std.proofs.Common.{inl, inr, refl, sym, ◌∙◌, ap, subst, arith, filter, Some, nat_eq}
use Rattle.std.specs.Prelude.{slice_get, zip}
use Rattle.std.specs.List.{find, IsDistinct, AllByRecursion}
use Rattle.std.specs.List.Sorted.{IsPermutation}
use Rattle.std.proofs.lemmas.Bool.{cases_Bool, eq-eqb}
use Rattle.std.proofs.lemmas.List.{append-nil, length-map, take_all}
use Rattle.std.proofs.lemmas.List.Sorted.{IsPermutation-refl, IsPermutation-cons, IsPermutation-middle}
use Rattle.std.proofs.lemmas.List.Sorted.{IsPermutation-trans, IsPermutation-map, IsPermutation-pop_more}
use Rattle.std.proofs.lemmas.List.Sorted.{length_permutation, list_any-IsPermutation}
use Rattle.std.proofs.lemmas.Map.Keys.{IsDistinct-head, IsDistinct-tail, IsDistinct-cons, IsDistinct-IsPermutation}
use Rattle.std.proofs.lemmas.Option.{slice_get_past}
use Rattle.std.proofs.lemmas.Slice.Zip.{length-zip}
use Rattle.admit_core.specs.declared.ranking.Ranked.{Ranked}
use Rattle.admit_core.specs.declared.ranking.RankGroup.{RankGroup}
use Rattle.admit_core.specs.declared.ranking.Bound.{Bound}
use Rattle.admit_core.specs.declared.ranking.CallOrder.{CallOrder}
use Rattle.admit_core.specs.Lists.{is_among}
use Rattle.admit_core.specs.CallOrder.{remaining, may_be_called, next_after, IsCallOrder}
use Rattle.admit_core.specs.CallOrderLaws.{ranked_candidates, OfCallOrders}
use Rattle.admit_core.specs.Validity.{IsRanking}
use Rattle.admit_core.proofs.LeastFirst.{found_has, all_filter}
use Rattle.admit_core.proofs.NextCalls.{next_none, next_some, remaining_push, remaining_first}
use Rattle.admit_core.proofs.Plain.{nat_eq_sym}

-- where all keys differ from one, none goes by that key
pub all_stay : {X : Type 0} (key : X → ℕ) (c : ℕ) (xs : List X) → AllByRecursion (λ k. nat_eq c k ≡ false) (map key xs)
    → filter (λ x. not (nat_eq (key x) c)) xs ≡ xs
all_stay key c [] all = refl
all_stay key c (x ∷ xs) all = rw (nat_eq_sym (key x) c, all.0) (ap (λ ys. x ∷ ys) (all_stay key c xs all.1))

-- what all keys have, as a fact on the rows, and back
pub all_by_key : {X : Type 0} (key : X → ℕ) (P : ℕ → Type 0) (xs : List X) → AllByRecursion P (map key xs)
    → AllByRecursion (λ x. P (key x)) xs
all_by_key key P [] all = tt
all_by_key key P (x ∷ xs) all = (all.0, all_by_key key P xs all.1)

all_of_keys : {X : Type 0} (key : X → ℕ) (P : ℕ → Type 0) (xs : List X) → AllByRecursion (λ x. P (key x)) xs
    → AllByRecursion P (map key xs)
all_of_keys key P [] all = tt
all_of_keys key P (x ∷ xs) all = (all.0, all_of_keys key P xs all.1)

-- where keys differ, what is found has another key than the first, if that fails the test
pub later_key : {X : Type 0} (key : X → ℕ) (test : X → Bool) (y : X) (ys : List X) (x : X)
    → IsDistinct nat_eq (map key (y ∷ ys)) → find test ys ≡ Some x → nat_eq (key y) (key x) ≡ false
later_key {X = X} key test y ys x apart found =
    let other = λ (k : ℕ). nat_eq (key y) k ≡ false in
    found_has (λ (z : X). other (key z)) test ys x
    (all_by_key key other ys (IsDistinct-head nat_eq (key y) (map key ys) apart)) found

-- where keys differ, a list is one that is found in it and the others
pub permutation_without : {X : Type 0} (key : X → ℕ) (test : X → Bool) (xs : List X) (x : X)
    → IsDistinct nat_eq (map key xs) → find test xs ≡ Some x
    → IsPermutation xs (x ∷ filter (λ y. not (nat_eq (key y) (key x))) xs)
permutation_without key test [] x apart e = absurd (cc)
permutation_without {X = X} key test (y ∷ ys) x apart e =
    elim (cases_Bool (test y)) [
      | inl here ↦
          let head = IsDistinct-head nat_eq (key y) (map key ys) apart in
          let same : y ≡ x = let found = rw here at e in (cc) in
          let own : IsPermutation (y ∷ ys) (y ∷ filter (λ z. not (nat_eq (key z) (key y))) (y ∷ ys)) =
          rw (eq-eqb (key y) (key y) refl, all_stay key (key y) ys head) (IsPermutation-refl (y ∷ ys)) in
          subst (λ w. IsPermutation (y ∷ ys) (w ∷ filter (λ z. not (nat_eq (key z) (key w))) (y ∷ ys))) same own
      | inr later ↦
          let found = rw later at e in
          let others = λ (z : X). not (nat_eq (key z) (key x)) in
          let apart_from = later_key key test y ys x apart found in
          let rest = permutation_without key test ys x (IsDistinct-tail nat_eq (key y) (map key ys) apart) found in
          rw apart_from
          (IsPermutation-trans (y ∷ ys) (y ∷ x ∷ filter others ys) (x ∷ y ∷ filter others ys)
          (IsPermutation-cons y ys (x ∷ filter others ys) rest)
          (IsPermutation-middle (y ∷ []) x (filter others ys)))
    ]

-- keys that differ still do after a filter
pub distinct_filter : {X : Type 0} (key : X → ℕ) (test : X → Bool) (xs : List X) → IsDistinct nat_eq (map key xs)
    → IsDistinct nat_eq (map key (filter test xs))
distinct_filter key test [] apart = apart
distinct_filter {X = X} key test (x ∷ xs) apart =
    let other = λ (k : ℕ). nat_eq (key x) k ≡ false in
    let all = all_by_key key other xs (IsDistinct-head nat_eq (key x) (map key xs) apart) in
    let later = distinct_filter key test xs (IsDistinct-tail nat_eq (key x) (map key xs) apart) in
    elim (cases_Bool (test x)) [
      | inl passes ↦
          rw passes
          (IsDistinct-cons nat_eq (key x) (map key (filter test xs))
          (all_of_keys key other (filter test xs) (all_filter (λ (y : X). other (key y)) test xs all)) later)
      | inr fails ↦ rw fails later
    ]

-- after some calls a ranking's candidates are those called and those who remain
abbrev Parts : RankGroup → List ℕ → Type 0
Parts g before = IsPermutation (ranked_candidates g) (before ++ map (λ r. r.candidate) (remaining g before))

parts_first : (g : RankGroup) → Parts g []
parts_first g = rw remaining_first (IsPermutation-refl (ranked_candidates g))

parts_push : (g : RankGroup) (before : List ℕ) (c : ℕ) (b : Bound) → IsRanking g → next_after g before ≡ Some (c, b)
    → Parts g before → Parts g (before ++ c ∷ [])
parts_push g before c b ranking next parts =
    let key = λ (r : Ranked). r.candidate in
    let rs = remaining g before in
    let (r, called) = next_some g before c b ranking.ranks next in
    let apart = distinct_filter key (λ (x : Ranked). not (is_among x.candidate before)) g.list ranking.candidates in
    let others = filter (λ (x : Ranked). not (nat_eq x.candidate r.candidate)) rs in
    let goes = IsPermutation-map key rs (r ∷ others)
    (permutation_without key (may_be_called b) rs r apart called.first) in
    rw (← called.candidate, remaining_push g before r.candidate)
    (IsPermutation-pop_more (ranked_candidates g) before (map key rs) (map key others) r.candidate parts goes)

-- what stands at a place of a list is one more of its prefix
pub take_next : {X : Type 0} (xs : List X) (k : ℕ) (x : X) → slice_get xs k ≡ Some x
    → take (suc k) xs ≡ take k xs ++ x ∷ []
take_next [] k x e = absurd (cc)
take_next (y ∷ ys) zero x e = let same : y ≡ x = (cc) in rw same refl
take_next (y ∷ ys) (suc k) x e = ap (λ zs. y ∷ zs) (take_next ys k x e)

-- the call at each place
pub call_at : {A B : Type 0} (xs : List A) (ys : List B) (k : ℕ) → length ys ≡ length xs → k < length xs
    → (x : A) × (y : B) × (slice_get xs k ≡ Some x) × (slice_get (zip xs ys) k ≡ Some (x, y))
call_at [] ys k e lt = absurd (omega arith)
call_at (x ∷ xs) [] k e lt = absurd (omega arith)
call_at (x ∷ xs) (y ∷ ys) zero e lt = (x, y, refl, refl)
call_at (x ∷ xs) (y ∷ ys) (suc k) e lt = call_at xs ys k (omega arith) (omega arith)

parts_at : (g : RankGroup) (order : CallOrder) → IsRanking g → IsCallOrder g order → (k : ℕ) → k ≤ length order.list
    → Parts g (take k order.list)
parts_at g order ranking calls zero le = parts_first g
parts_at g order ranking calls (suc k) le =
    let (c, b, here, both) = call_at order.list order.trace k calls.as_long (omega arith) in
    rw (take_next order.list k c here)
    (parts_push g (take k order.list) c b ranking (calls.each_next k ∙ both)
    (parts_at g order ranking calls k (omega arith)))

-- after a whole call order nobody remains
pub none_remains : (g : RankGroup) (order : CallOrder) → IsRanking g → IsCallOrder g order → remaining g order.list ≡ []
none_remains g order ranking calls =
    let n = length order.list in
    let past = slice_get_past (zip order.list order.trace) n (omega (arith, length-zip order.list order.trace)) in
    let next = calls.each_next n ∙ past in
    next_none g order.list ranking.ranks (rw (take_all n order.list (omega arith)) at next)

-- the list of a call order is a permutation of its ranking's candidates
pub order_permutes : OfCallOrders (λ g order. IsPermutation (ranked_candidates g) order.list)
order_permutes g order ranking calls =
    let n = length order.list in
    let parts = parts_at g order ranking calls n (omega arith) in
    rw (take_all n order.list (omega arith), none_remains g order ranking calls, append-nil) at parts

pub length-order : OfCallOrders (λ g order. length order.list ≡ length g.list)
length-order g order ranking calls = length_permutation (ranked_candidates g) order.list
    (order_permutes g order ranking calls) ∙ length-map g.list (λ (r : Ranked). r.candidate)

pub distinct-order : OfCallOrders (λ g order. IsDistinct nat_eq order.list)
distinct-order g order ranking calls =
    IsDistinct-IsPermutation nat_eq nat_eq_sym (ranked_candidates g) order.list
    (order_permutes g order ranking calls) ranking.candidates

pub among-order : OfCallOrders (λ g order. (c : ℕ) → is_among c order.list ≡ is_among c (ranked_candidates g))
among-order g order ranking calls c =
    sym (list_any-IsPermutation (nat_eq c) (ranked_candidates g) order.list (order_permutes g order ranking calls))
