-- The row of each call, and the rows that stand in a ranking.
use Rattle.std.proofs.Common.{ℕ, zero, suc, ◌≤◌, ◌<◌, ◌≡◌, Bool, true, false, not, List, [], ◌∷◌, ◌++◌, map, length}
use Rattle.std.proofs.Common.{take, inl, inr, refl, sym, ◌∙◌, ap, arith, filter, Some, nat_eq, get_or}
use Rattle.std.specs.Prelude.{◌⊎◌, slice_get, zip, Contains}
use Rattle.std.specs.List.{find, IsDistinct, AllByRecursion}
use Rattle.std.proofs.lemmas.Bool.{cases_Bool, false≢true, eqb-false, eq-eqb, not_from_false, or_left, or_right}
use Rattle.std.proofs.lemmas.Map.Keys.{IsDistinct-head, IsDistinct-tail}
use Rattle.admit_core.specs.declared.ranking.Ranked.{Ranked}
use Rattle.admit_core.specs.declared.ranking.RankGroup.{RankGroup}
use Rattle.admit_core.specs.declared.ranking.Bound.{Bound}
use Rattle.admit_core.specs.declared.ranking.CallOrder.{CallOrder}
use Rattle.admit_core.specs.Lists.{is_among}
use Rattle.admit_core.specs.CallOrder.{remaining, bound_after, may_be_called, IsCallOrder}
use Rattle.admit_core.specs.Validity.{IsRanking}
use Rattle.admit_core.proofs.LeastFirst.{RisesBy}
use Rattle.admit_core.proofs.NextCalls.{next_some}
use Rattle.admit_core.proofs.OrderPermutes.{all_by_key, take_next, call_at}
use Rattle.admit_core.proofs.Plain.{nat_eq_sym}

-- ---- rows of a list
abbrev pub IsIn : {X : Type 0} → X → List X → Type 0
IsIn x [] = ⊥
IsIn x (y ∷ ys) = (y ≡ x) ⊎ IsIn x ys

in_at : {X : Type 0} (x : X) (xs : List X) (k : ℕ) → k < length xs → get_or xs k x ≡ x → IsIn x xs
in_at x [] k lt e = absurd (omega arith)
in_at x (y ∷ ys) zero lt e = inl e
in_at x (y ∷ ys) (suc k) lt e = inr (in_at x ys k (omega arith) e)

pub in_list : {X : Type 0} (x : X) (xs : List X) → Contains xs x → IsIn x xs
in_list x xs has = in_at x xs has.0 has.1 has.2

pub in_filter : {X : Type 0} (test : X → Bool) (x : X) (xs : List X) → IsIn x xs → test x ≡ true
    → IsIn x (filter test xs)
in_filter test x [] has t = has
in_filter test x (y ∷ ys) has t =
    elim has [
      | inl same ↦ let passes : test y ≡ true = rw same t in rw passes (inl same)
      | inr later ↦
          elim (cases_Bool (test y)) [
            | inl passes ↦ rw passes (inr (in_filter test x ys later t))
            | inr fails ↦ rw fails (in_filter test x ys later t)
          ]
    ]

pub in_found : {X : Type 0} (test : X → Bool) (x : X) (xs : List X) → find test xs ≡ Some x → IsIn x xs
in_found test x [] e = absurd (cc)
in_found test x (y ∷ ys) e =
    elim (cases_Bool (test y)) [
      | inl passes ↦ inl (let found = rw passes at e in (cc))
      | inr fails ↦ inr (in_found test x ys (rw fails at e))
    ]

in_whole : {X : Type 0} (test : X → Bool) (x : X) (xs : List X) → IsIn x (filter test xs) → IsIn x xs
in_whole test x [] has = has
in_whole test x (y ∷ ys) has =
    elim (cases_Bool (test y)) [
      | inl passes ↦
          elim (rw passes at has) [
            | inl same ↦ inl same
            | inr later ↦ inr (in_whole test x ys later)
          ]
      | inr fails ↦ inr (in_whole test x ys (rw fails at has))
    ]

-- what all have, each has
all_in : {X : Type 0} (P : X → Type 0) (x : X) (xs : List X) → AllByRecursion P xs → IsIn x xs → P x
all_in P x [] all has = absurd has
all_in P x (y ∷ ys) all has =
    elim has [
      | inl same ↦ rw (← same) all.0
      | inr later ↦ all_in P x ys all.1 later
    ]

all_keys_in : {X : Type 0} (key : X → ℕ) (P : ℕ → Type 0) (x : X) (xs : List X) → AllByRecursion P (map key xs)
    → IsIn x xs → P (key x)
all_keys_in {X = X} key P x xs all has = all_in (λ (y : X). P (key y)) x xs (all_by_key key P xs all) has

-- where keys differ, a key has one row
pub same_row : {X : Type 0} (key : X → ℕ) (x y : X) (xs : List X) → IsDistinct nat_eq (map key xs) → IsIn x xs
    → IsIn y xs → key x ≡ key y → x ≡ y
same_row key x y [] apart has hasy e = absurd has
same_row key x y (z ∷ zs) apart has hasy e =
    let head = IsDistinct-head nat_eq (key z) (map key zs) apart in
    elim has [
      | inl same ↦
          elim hasy [
            | inl same_y ↦ sym same ∙ same_y
            | inr later ↦
                let never = all_keys_in key _ y zs head later in
                absurd (eqb-false (key z) (key y) never (ap key same ∙ e))
          ]
      | inr earlier ↦
          elim hasy [
            | inl same_y ↦
                let never = all_keys_in key _ x zs head earlier in
                absurd (eqb-false (key z) (key x) never (ap key same_y ∙ sym e))
            | inr later ↦ same_row key x y zs (IsDistinct-tail nat_eq (key z) (map key zs) apart) earlier later e
          ]
    ]

-- a row is found by its key
pub find_own : {X : Type 0} (key : X → ℕ) (x : X) (xs : List X) → IsDistinct nat_eq (map key xs) → IsIn x xs
    → find (λ y. nat_eq (key y) (key x)) xs ≡ Some x
find_own key x [] apart has = absurd has
find_own key x (z ∷ zs) apart has =
    elim has [
      | inl same ↦ rw (eq-eqb (key z) (key x) (ap key same)) (ap Some same)
      | inr later ↦
          rw (all_keys_in key _ x zs (IsDistinct-head nat_eq (key z) (map key zs) apart) later)
          (find_own key x zs (IsDistinct-tail nat_eq (key z) (map key zs) apart) later)
    ]

-- where keys rise, the first who passes has the least key of those who pass
pub least_found : {X : Type 0} (key : X → ℕ) (test : X → Bool) (r s : X) (xs : List X) → RisesBy key xs
    → find test xs ≡ Some r → IsIn s xs → test s ≡ true
    → (r ≡ s) ⊎ (key r < key s)
least_found key test r s [] rises e has t = absurd has
least_found key test r s (x ∷ xs) rises e has t =
    elim (cases_Bool (test x)) [
      | inl passes ↦
          let here : x ≡ r = let found = rw passes at e in (cc) in
          elim has [
            | inl same ↦ inl (sym here ∙ same)
            | inr later ↦ inr (rw (← here) (all_in (λ y. key x < key y) s xs rises.0 later))
          ]
      | inr fails ↦
          elim has [
            | inl same ↦ let never : test x ≡ true = rw same t in absurd (false≢true (sym fails ∙ never))
            | inr later ↦ least_found key test r s xs rises.1 (rw fails at e) later t
          ]
    ]

-- ---- prefixes of lists of ids
at_place : (P : ℕ → Type 0) (xs : List ℕ) (j c : ℕ) → AllByRecursion P xs → slice_get xs j ≡ Some c → P c
at_place P [] j c all e = absurd (cc)
at_place P (x ∷ xs) zero c all e = let same : x ≡ c = (cc) in rw (← same) all.0
at_place P (x ∷ xs) (suc j) c all e = at_place P xs j c all.1 e

-- where ids differ, who stands at a place is not among those before it
pub not_among_front : (xs : List ℕ) (i j c : ℕ) → IsDistinct nat_eq xs → slice_get xs j ≡ Some c → i ≤ j
    → is_among c (take i xs) ≡ false
not_among_front xs zero j c apart e le = refl
not_among_front [] (suc i) j c apart e le = absurd (cc)
not_among_front (x ∷ xs) (suc i) zero c apart e le = absurd (omega arith)
not_among_front (x ∷ xs) (suc i) (suc j) c apart e le =
    let other = at_place _ xs j c (IsDistinct-head nat_eq x xs apart) e in
    rw (nat_eq_sym c x, other) (not_among_front xs i j c (IsDistinct-tail nat_eq x xs apart) e (omega arith))

pub among_front : (xs : List ℕ) (i c : ℕ) → slice_get xs i ≡ Some c → is_among c (take (suc i) xs) ≡ true
among_front [] i c e = absurd (cc)
among_front (x ∷ xs) zero c e = let same : x ≡ c = (cc) in or_left (nat_eq c x) false (eq-eqb c x (sym same))
among_front (x ∷ xs) (suc i) c e = or_right (nat_eq c x) (is_among c (take (suc i) xs)) (among_front xs i c e)

-- a row whose id stands at or behind a place remains before it
pub in_remaining : (g : RankGroup) (list : List ℕ) (i j : ℕ) (s : Ranked) → IsDistinct nat_eq list → IsIn s g.list
    → slice_get list j ≡ Some s.candidate → i ≤ j
    → IsIn s (remaining g (take i list))
in_remaining g list i j s apart has e le =
    in_filter (λ (r : Ranked). not (is_among r.candidate (take i list))) s g.list has
    (not_from_false (is_among s.candidate (take i list)) (not_among_front list i j s.candidate apart e le))

-- ---- the call at each place
bound_at : {A B : Type 0} (xs : List A) (ys : List B) (k : ℕ) (x : A) (y : B) → slice_get (zip xs ys) k ≡ Some (x, y)
    → slice_get ys k ≡ Some y
bound_at [] ys k x y e = absurd (cc)
bound_at (a ∷ xs) [] k x y e = absurd (cc)
bound_at {A = A} {B = B} (a ∷ xs) (b ∷ ys) zero x y e =
    let pair : (a, b) ≡ (x, y) = (cc) in ap Some (ap (λ (p : A × B). p.1) pair)
bound_at (a ∷ xs) (b ∷ ys) (suc k) x y e = bound_at xs ys k x y e

pub record IsCallAt (g : RankGroup) (order : CallOrder) (k : ℕ) (r : Ranked) (b : Bound) : Type 0 where
  pub who : slice_get order.list k ≡ Some r.candidate
  pub told : slice_get order.trace k ≡ Some b
  pub bound : bound_after g (take k order.list) ≡ b
  pub first : find (may_be_called b) (remaining g (take k order.list)) ≡ Some r
  pub ranked : IsIn r g.list
  pub front : take (suc k) order.list ≡ take k order.list ++ r.candidate ∷ []

pub call_row : (g : RankGroup) (order : CallOrder) → IsRanking g → IsCallOrder g order → (k : ℕ) → k < length order.list
    → (r : Ranked) × (b : Bound) × IsCallAt g order k r b
call_row g order ranking calls k lt =
    let (c, b, here, both) = call_at order.list order.trace k calls.as_long lt in
    let (r, called) = next_some g (take k order.list) c b ranking.ranks (calls.each_next k ∙ both) in (
      r,
      b,
      record {
        who = rw called.candidate here;
        told = bound_at order.list order.trace k c b both;
        bound = called.bound;
        first = called.first;
        ranked = in_whole _ r g.list (in_found (may_be_called b) r (remaining g (take k order.list)) called.first);
        front = rw called.candidate (take_next order.list k c here);
      },
    )
