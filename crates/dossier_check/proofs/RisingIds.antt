-- Ids that rise: each once, and found by a search.
use Rattle.std.proofs.Common.{◌≡◌, ℕ, ◌+◌, ◌<◌, ◌≤◌, Bool, true, false, nat_eq, nat_lt, List, [], ◌∷◌, ◌++◌, length}
use Rattle.std.proofs.Common.{take, get_or, position, slice_get, Some, Result, Ok, Err, is_some, refl, sym, ap, ◌∙◌}
use Rattle.std.proofs.Common.{arith, inl, inr, ◌⊎◌}
use Rattle.std.specs.List.{list_any, position_or_len, IsDistinct}
use Rattle.std.specs.List.Sorted.{IsBinarySearchResult}
use Rattle.std.specs.Ordering.{nat_cmp}
use Rattle.std.specs.Result.{MatchResult, result_ok}
use Rattle.std.proofs.lemmas.Bool.Decides.{nat_tests}
use Rattle.std.proofs.lemmas.List.{get_or_append_left, get_or_at, get_or_default, get_or-take, length-append}
use Rattle.std.proofs.lemmas.List.{length-take-le, take_more}
use Rattle.std.proofs.lemmas.List.Folds.{list_any_none}
use Rattle.std.proofs.lemmas.List.Sorted.{searched}
use Rattle.std.proofs.lemmas.List.Sums.{position_or_len_is}
use Rattle.std.proofs.lemmas.Map.Keys.{IsDistinct-from_apart, apart_from_distinct}
use Rattle.std.proofs.lemmas.Option.{get_or_from_slice_get, slice_get_within}
use Rattle.admit_core.proofs.Plain.{nat_eq_sym}
use Rattle.indexmap.specs.IndexSet.{insert_key}
use Rattle.dossier_check.specs.RowIds.{Rises}
use Rattle.dossier_check.proofs.Firsts.{position-none}
use Rattle.dossier_check.proofs.Places.{nat_eq_same, position-any}
use Rattle.dossier_check.proofs.Rising.{differs}

pub differs_above : (m n : ℕ) → m < n → nat_eq n m ≡ false
differs_above m n lt = grind (arith, nat_tests)

pub apart_rising : (ids : List ℕ) → Rises ids → IsDistinct nat_eq ids
apart_rising ids rises = IsDistinct-from_apart nat_eq ids (λ i j d lt within.
    differs (get_or ids i d) (get_or ids j d) (rises i j d lt within))

-- an id that comes after rising ones is none of them
pub none_before : (ids : List ℕ) (id : ℕ) → Rises (ids ++ id ∷ []) → list_any (nat_eq id) ids ≡ false
none_before ids id rises =
    list_any_none (nat_eq id) ids (λ k d lt.
    let within : length ids < length (ids ++ id ∷ []) = omega (arith, length-append ids (id ∷ [])) in
    let less : get_or ids k d < id = rw (
      get_or_append_left ids (id ∷ []) d k lt,
      get_or_at ids id [] d
          (length ids) refl,
    ) at (rises k (length ids) d lt within) in
    differs_above (get_or ids k d) id less)

-- an id that is read at a place is found there
pub place_rising : (ids : List ℕ) (id i : ℕ) → Rises ids → i < length ids → get_or ids i 0 ≡ id
    → position (nat_eq id) ids ≡ Some i
place_rising ids id i rises lt there =
    let at : position_or_len (nat_eq id) ids ≡ i =
    position_or_len_is (nat_eq id) ids i 0 (omega arith)
    (λ k before. differs_above (get_or ids k 0) id (rw there at (rises k i 0 before lt)))
    (λ within. nat_eq_same id (get_or ids i 0) (sym there)) in
    let within : nat_lt i (length ids) ≡ true = grind arith in
    rw (at, within) refl

in_order : (ids : List ℕ) → Rises ids → (i j : ℕ) → i ≤ j → j < length ids → get_or ids i 0 ≤ get_or ids j 0
in_order ids rises i j le lt = by (split i j le)
  where
    split : (m n : ℕ) → m ≤ n → (m < n) ⊎ (m ≡ n)
    split m n h = grind arith

    by : (i < j) ⊎ (i ≡ j) → get_or ids i 0 ≤ get_or ids j 0
    by (inl below) = let less : get_or ids i 0 < get_or ids j 0 = rises i j 0 below lt in omega arith
    by (inr same) = let equal : get_or ids i 0 ≡ get_or ids j 0 = ap (λ k. get_or ids k 0) same in omega arith

-- what a search finds is the place
pub searched_place : (ids : List ℕ) (id : ℕ) (r : Result ℕ ℕ) → Rises ids
    → IsBinarySearchResult (λ y. nat_cmp y id) ids r
    → result_ok r ≡ position (nat_eq id) ids
searched_place ids id r rises answer = by r (searched ids id r answer (in_order ids rises))
  where
    order : (k m : ℕ) → (k < m) ⊎ (m ≤ k)
    order k m = grind arith

    by : (q : Result ℕ ℕ) → MatchResult q (λ i. (i < length ids) × (get_or ids i 0 ≡ id))
        (λ i. (i ≤ length ids) × ((k : ℕ) → k < i → get_or ids k 0 < id)
        × ((k : ℕ) → i ≤ k → k < length ids → id < get_or ids k 0))
        → result_ok q ≡ position (nat_eq id) ids
    by (Ok i) at = sym (place_rising ids id i rises at.0 at.1)
    by (Err i) at = sym (position-none (nat_eq id) ids
        (list_any_none (nat_eq id) ids (λ k d lt. rw (get_or_default ids k d 0 lt) (none k lt (order k i)))))
      where
        none : (k : ℕ) → k < length ids → (k < i) ⊎ (i ≤ k) → nat_eq id (get_or ids k 0) ≡ false
        none k lt (inl below) = differs_above (get_or ids k 0) id (at.1 k below)
        none k lt (inr above) = differs id (get_or ids k 0) (at.2 k above lt)

-- the next of rising ids is new to a set of those before it
pub set_more : (ids ks : List ℕ) (i d : ℕ) → Rises ids → i < length ids → ks ≡ take i ids
    → insert_key nat_eq ks (get_or ids i d) ≡ take (i + 1) ids
set_more ids ks i d rises lt is =
    let new : list_any (nat_eq (get_or ids i d)) (take i ids) ≡ false =
    list_any_none (nat_eq (get_or ids i d)) (take i ids) (λ k e within.
    let before : k < i = omega (arith, within, length-take-le i ids (omega (arith, lt))) in
    let here : get_or (take i ids) k e ≡ get_or ids k e = get_or-take i ids k e before in
    rw (here, get_or_default ids i d e lt) (differs_above (get_or ids k e) (get_or ids i e) (rises k i e before lt))) in
    rw (is, new) (sym (take_more ids i d lt))

-- whether one is found, by its place
pub found_by_place : (ids : List ℕ) (id : ℕ) → is_some (position (nat_eq id) ids) ≡ list_any (nat_eq id) ids
found_by_place ids id = by (list_any (nat_eq id) ids) refl
  where
    by : (b : Bool) → list_any (nat_eq id) ids ≡ b → is_some (position (nat_eq id) ids) ≡ list_any (nat_eq id) ids
    by true e = rw (position-any (nat_eq id) ids e, e) refl
    by false e = rw (position-none (nat_eq id) ids e, e) refl

-- a key that is read at a place is found there where each is once
pub stands_once : {K : Type 0} (eq : K → K → Bool) → ((a b : K) → eq a b ≡ eq b a) → (keys : List K) (key : K) (i : ℕ)
    → eq key key ≡ true → IsDistinct eq keys → slice_get keys i ≡ Some key → position (eq key) keys ≡ Some i
stands_once eq flips keys key i self once read =
    let lt : i < length keys = slice_get_within keys i key read in
    let here : get_or keys i key ≡ key = get_or_from_slice_get keys i key key read in
    let at : position_or_len (eq key) keys ≡ i =
    position_or_len_is (eq key) keys i key (omega arith)
    (λ k before.
    flips key (get_or keys k key) ∙ rw here at (apart_from_distinct eq keys k i key once before lt))
    (λ within. ap (eq key) here ∙ self) in
    let within : nat_lt i (length keys) ≡ true = grind arith in
    rw (at, within) refl

-- the same of an id
pub place_once : (ids : List ℕ) (id i there : ℕ) → IsDistinct nat_eq ids → slice_get ids i ≡ Some there → there ≡ id
    → position (nat_eq id) ids ≡ Some i
place_once ids id i there once read same =
    stands_once nat_eq nat_eq_sym ids id i (nat_eq_same id id refl) once (read ∙ ap Some same)
