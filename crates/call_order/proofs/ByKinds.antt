-- The first of a list by the heads of its kinds.
use Rattle.std.proofs.Common.{ℕ, ◌<◌, ◌≡◌, Bool, true, false, cond, not, ◌&&◌, ◌||◌, List, [], ◌∷◌, map}
use Rattle.std.proofs.Common.{inl, inr, refl, sym, ◌∙◌, ap, arith, filter, Option, Some, None, nat_eq, nat_lt}
use Rattle.std.specs.Prelude.{find, is_some}
use Rattle.std.specs.List.{list_any, IsDistinct}
use Rattle.std.specs.List.Sorted.{IsStrictlyIncreasing}
use Rattle.std.proofs.lemmas.Bool.{cases_Bool, lt-ltb, le-ltb, eq-eqb}
use Rattle.std.proofs.lemmas.Map.Keys.{IsDistinct-head, IsDistinct-tail}
use Rattle.admit_core.specs.declared.ranking.Ranked.{Ranked}
use Rattle.admit_core.specs.declared.ranking.Bound.{Bound}
use Rattle.admit_core.specs.declared.ranking.Bound.TheVariants.{Free, Scholar, Resident, Both, Alone}
use Rattle.admit_core.specs.CallOrder.{may_be_called}
use Rattle.admit_core.proofs.LeastFirst.{RisesBy, found_has, rises_by_key}
use Rattle.admit_core.proofs.OrderPermutes.{all_stay, later_key}
use Rattle.call_order.specs.declared.kind.Kind.TheVariants.{Neither, ScholarOnly, ResidentOnly, BothKinds}
use Rattle.call_order.specs.Kinds.{has_flags, kind_by, kind_of, is_of, head_of, without_first}
use Rattle.call_order.proofs.MovedHeads.{own_flags}

-- ---- whether someone remains, by kind
swap_or : (a b c d : Bool) → ((a || b) || (c || d)) ≡ ((a || c) || (b || d))
swap_or true b c d = refl
swap_or false true true d = refl
swap_or false true false d = refl
swap_or false false c d = refl

any_either : {X : Type 0} (p q either : X → Bool) → ((x : X) → either x ≡ (p x || q x)) → (xs : List X)
    → list_any either xs ≡ (list_any p xs || list_any q xs)
any_either p q either h [] = refl
any_either p q either h (x ∷ xs) = rw (h, any_either p q either h xs) (swap_or (p x) (q x) (list_any p xs)
    (list_any q xs))

-- what `||` answers
pub or_then : {answer a : Bool} (b : Bool) → answer ≡ a → answer ≡ true → answer ≡ (a || b)
or_then b e t = rw (← e, t) refl

pub or_else : {first second a b : Bool} → first ≡ a → first ≡ false → second ≡ b → second ≡ (a || b)
or_else e f h = rw (← e, f) h

pub any_found : {X : Type 0} (test : X → Bool) (xs : List X) → is_some (find test xs) ≡ list_any test xs
any_found test [] = refl
any_found test (x ∷ xs) =
    elim (cases_Bool (test x)) [
      | inl passes ↦ rw passes refl
      | inr fails ↦ rw fails (any_found test xs)
    ]

by_flag : (flag other : Bool) → flag ≡ ((flag && not other) || (flag && other))
by_flag true true = refl
by_flag true false = refl
by_flag false other = refl

by_other_flag : (flag other : Bool) → flag ≡ ((not other && flag) || (other && flag))
by_other_flag true true = refl
by_other_flag true false = refl
by_other_flag false true = refl
by_other_flag false false = refl

pub scholars_by_kind : (rs : List Ranked)
    → list_any (λ r. r.scholar) rs ≡ (list_any (is_of ScholarOnly) rs || list_any (is_of BothKinds) rs)
scholars_by_kind rs = any_either (is_of ScholarOnly) (is_of BothKinds) (λ r. r.scholar)
    (λ r. by_flag r.scholar r.resident) rs

pub residents_by_kind : (rs : List Ranked)
    → list_any (λ r. r.resident) rs ≡ (list_any (is_of ResidentOnly) rs || list_any (is_of BothKinds) rs)
residents_by_kind rs = any_either (is_of ResidentOnly) (is_of BothKinds) (λ r. r.resident)
    (λ r. by_other_flag r.resident r.scholar) rs

-- ---- the first of two kinds is the one of lesser rank of their heads
-- the one of lesser rank
abbrev pub earlier_of : Option Ranked → Option Ranked → Option Ranked
earlier_of None other = other
earlier_of (Some x) None = Some x
earlier_of (Some x) (Some y) = cond (nat_lt x.rank y.rank) (Some x) (Some y)

pub earlier_same : (x : Ranked) → earlier_of (Some x) (Some x) ≡ Some x
earlier_same x =
    elim (cases_Bool (nat_lt x.rank x.rank)) [
      | inl below ↦ rw below refl
      | inr above ↦ rw above refl
    ]

pub earlier_left : (x : Ranked) (o : Option Ranked) → ((y : Ranked) → o ≡ Some y → x.rank < y.rank)
    → earlier_of (Some x) o ≡ Some x
earlier_left x None h = refl
earlier_left x (Some y) h = let lt = h y refl in rw (lt-ltb x.rank y.rank lt) refl

pub earlier_right : (x : Ranked) (o : Option Ranked) → ((y : Ranked) → o ≡ Some y → x.rank < y.rank)
    → earlier_of o (Some x) ≡ Some x
earlier_right x None h = refl
earlier_right x (Some y) h = let lt = h y refl in rw (le-ltb y.rank x.rank (omega arith)) refl

find_by_rank : (p q either : Ranked → Bool) → ((x : Ranked) → either x ≡ (p x || q x)) → (xs : List Ranked)
    → RisesBy (λ r. r.rank) xs
    → find either xs ≡ earlier_of (find p xs) (find q xs)
find_by_rank p q either h [] rises = refl
find_by_rank p q either h (x ∷ xs) rises =
    let later = λ (test : Ranked → Bool) (y : Ranked) (e : find test xs ≡ Some y).
    found_has (λ z. x.rank < z.rank) test xs y rises.0 e in
    elim (cases_Bool (p x)) [
      | inl one ↦
          elim (cases_Bool (q x)) [
            | inl both ↦ rw (h, one, both) (sym (earlier_same x))
            | inr only ↦ rw (h, one, only) (sym (earlier_left x (find q xs) (later q)))
          ]
      | inr none ↦
          elim (cases_Bool (q x)) [
            | inl other ↦ rw (h, none, other) (sym (earlier_right x (find p xs) (later p)))
            | inr neither ↦ rw (h, none, neither) (find_by_rank p q either h xs rises.1)
          ]
    ]

pub find_either : (p q either : Ranked → Bool) → ((x : Ranked) → either x ≡ (p x || q x)) → (xs : List Ranked)
    → IsStrictlyIncreasing (map (λ r. r.rank) xs)
    → find either xs ≡ earlier_of (find p xs) (find q xs)
find_either p q either h xs rising = find_by_rank p q either h xs (rises_by_key (λ (r : Ranked). r.rank) xs rising)

pub find_scholar : (rs : List Ranked) → IsStrictlyIncreasing (map (λ r. r.rank) rs)
    → find (λ r. r.scholar) rs ≡ earlier_of (head_of ScholarOnly rs) (head_of BothKinds rs)
find_scholar rs rising = find_either (is_of ScholarOnly) (is_of BothKinds) (λ r. r.scholar)
    (λ r. by_flag r.scholar r.resident) rs rising

pub find_resident : (rs : List Ranked) → IsStrictlyIncreasing (map (λ r. r.rank) rs)
    → find (λ r. r.resident) rs ≡ earlier_of (head_of ResidentOnly rs) (head_of BothKinds rs)
find_resident rs rising = find_either (is_of ResidentOnly) (is_of BothKinds) (λ r. r.resident)
    (λ r. by_other_flag r.resident r.scholar) rs rising

by_both_flags : (flag other : Bool) → true ≡ (((not flag && not other) || (flag && not other)) || other)
by_both_flags true true = refl
by_both_flags true false = refl
by_both_flags false true = refl
by_both_flags false false = refl

pub find_any_kind : (rs : List Ranked) → IsStrictlyIncreasing (map (λ r. r.rank) rs)
    → find (λ r. true) rs ≡ earlier_of (earlier_of (head_of Neither rs) (head_of ScholarOnly rs))
    (earlier_of (head_of ResidentOnly rs) (head_of BothKinds rs))
find_any_kind rs rising =
    let no_resident = λ (r : Ranked). is_of Neither r || is_of ScholarOnly r in
    rw (← find_resident rs rising, ← find_either (is_of Neither) (is_of ScholarOnly) no_resident (λ r. refl) rs rising)
    (find_either no_resident (λ r. r.resident) (λ r. true) (λ r. by_both_flags r.scholar r.resident) rs rising)

-- ---- who is found is the head of their kind, and goes alone
find_stronger : {X : Type 0} (p q : X → Bool) → ((x : X) → q x ≡ true → p x ≡ true) → (xs : List X) (y : X)
    → find p xs ≡ Some y → q y ≡ true → find q xs ≡ Some y
find_stronger p q h [] y e own = absurd (cc)
find_stronger p q h (x ∷ xs) y e own =
    elim (cases_Bool (p x)) [
      | inl passes ↦ let same : x ≡ y = let found = rw passes at e in (cc) in rw (same, own) refl
      | inr fails ↦
          elim (cases_Bool (q x)) [
            | inl both ↦ let never = sym (h x both) ∙ fails in (cc)
            | inr neither ↦ rw neither (find_stronger p q h xs y (rw fails at e) own)
          ]
    ]

same_flags : (s t u v : Bool) → has_flags (kind_by s t) u v ≡ true → (u ≡ s) × (v ≡ t)
same_flags false false false false e = (refl, refl)
same_flags true false true false e = (refl, refl)
same_flags false true false true e = (refl, refl)
same_flags true true true true e = (refl, refl)
same_flags s t u v e = absurd (cc)

same_may : (b : Bound) (x y : Ranked) → x.scholar ≡ y.scholar → x.resident ≡ y.resident
    → may_be_called b x ≡ may_be_called b y
same_may Free x y e f = refl
same_may Scholar x y e f = e
same_may Resident x y e f = f
same_may Both x y e f = rw (e, f) refl
same_may Alone x y e f = e

may_by_kind : (b : Bound) (y : Ranked) → may_be_called b y ≡ true → (x : Ranked) → is_of (kind_of y) x ≡ true
    → may_be_called b x ≡ true
may_by_kind b y may x own =
    let (scholar, resident) = same_flags y.scholar y.resident x.scholar x.resident own in
    same_may b x y scholar resident ∙ may

pub head_of_own_kind : (b : Bound) (rs : List Ranked) (r : Ranked) → find (may_be_called b) rs ≡ Some r
    → may_be_called b r ≡ true → head_of (kind_of r) rs ≡ Some r
head_of_own_kind b rs r found may = find_stronger (may_be_called b) (is_of (kind_of r)) (may_by_kind b r may) rs r found
    (own_flags r.scholar r.resident)

pub without_first-filter : {X : Type 0} (key : X → ℕ) (test : X → Bool) (xs : List X) (x : X)
    → IsDistinct nat_eq (map key xs) → find test xs ≡ Some x
    → without_first test xs ≡ filter (λ y. not (nat_eq (key y) (key x))) xs
without_first-filter key test [] x apart e = absurd (cc)
without_first-filter key test (y ∷ ys) x apart e =
    elim (cases_Bool (test y)) [
      | inl here ↦
          let same : y ≡ x = let found = rw here at e in (cc) in
          let stay = all_stay key (key x) ys (rw same at (IsDistinct-head nat_eq (key y) (map key ys) apart)) in
          rw (here, same, eq-eqb (key x) (key x) refl) (sym stay)
      | inr later ↦
          let found = rw later at e in
          rw (later, later_key key test y ys x apart found)
          (ap (λ zs. y ∷ zs) (without_first-filter key test ys x
          (IsDistinct-tail nat_eq (key y) (map key ys) apart) found))
    ]
