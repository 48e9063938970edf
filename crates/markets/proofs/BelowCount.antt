-- Lists of numbers below a count, none twice.
use Rattle.std.proofs.Common.{ℕ, ◌≤◌, ◌<◌, ◌≡◌, Bool, true, false, ◌||◌, List, length, take, get_or, refl, sym, ◌∙◌}
use Rattle.std.proofs.Common.{arith, nat_eq, nat_lt}
use Rattle.std.specs.List.{list_all, position_or_len, IsDistinct}
use Rattle.std.proofs.lemmas.Bool.{and_parts, eq-eqb, ltb-true, false≢true, false_from_ne_true}
use Rattle.std.proofs.lemmas.Cmp.{nat_eq_equiv}
use Rattle.std.proofs.lemmas.List.{get_or-take, length-take-le}
use Rattle.std.proofs.lemmas.Map.Keys.{apart_from_distinct}
use Rattle.std.proofs.lemmas.Map.Made.{distinct_count-from_IsDistinct}
use Rattle.admit_core.specs.Lists.{is_among, distinct}
use Rattle.markets.specs.Markets.{is_distinct, is_list_below}
use Rattle.markets.proofs.Firsts.{one_of_all}
use Rattle.markets.proofs.Positions.{distinct_from, first_place, at_first}

pub is_distinct_from : (xs : List ℕ) → IsDistinct nat_eq xs → is_distinct xs ≡ true
is_distinct_from xs apart = eq-eqb (length (distinct xs)) (length xs) (distinct_count-from_IsDistinct nat_eq_equiv xs
    apart)

-- the parts of a list of numbers below a count
pub list_distinct : (n : ℕ) (xs : List ℕ) → is_list_below n xs ≡ true → IsDistinct nat_eq xs
list_distinct n xs t = distinct_from xs (and_parts (is_distinct xs) (list_all (λ p. nat_lt p n) xs) t).0

pub list_below : (n : ℕ) (xs : List ℕ) (q : ℕ) → is_list_below n xs ≡ true → is_among q xs ≡ true → q < n
list_below n xs q t among = ltb-true q n
    (one_of_all (λ p. nat_lt p n) q xs (and_parts (is_distinct xs) (list_all (λ p. nat_lt p n) xs) t).1 among)

pub last_differs : (a b : Bool) → b ≡ false → (a || (b || false)) ≡ a
last_differs true b e = refl
last_differs false b e = rw e refl

-- one of a front stands at a place of it
pub earlier : (p : ℕ) (xs : List ℕ) (k : ℕ) → k ≤ length xs → is_among p (take k xs) ≡ true
    → (j : ℕ) × ((j < k) × (get_or xs j 0 ≡ p))
earlier p xs k le t =
    let j : ℕ = position_or_len (nat_eq p) (take k xs) in
    let j_lt : j < k = omega (arith, first_place p (take k xs) t, length-take-le k xs le) in
    (j, (j_lt, sym (get_or-take k xs j 0 j_lt) ∙ at_first p (take k xs) t))

-- a number of a list below a count doesn't stand before its place
pub not_before : (n : ℕ) (xs : List ℕ) (k : ℕ) → is_list_below n xs ≡ true → k < length xs
    → is_among (get_or xs k 0) (take k xs) ≡ false
not_before n xs k is_list lt =
    let g : ℕ = get_or xs k 0 in
    false_from_ne_true (is_among g (take k xs)) (λ t.
    let (j, (j_lt, j_at)) = earlier g xs k (omega (arith, lt)) t in
    false≢true (sym (apart_from_distinct nat_eq xs j k 0 (list_distinct n xs is_list) j_lt lt)
    ∙ eq-eqb (get_or xs j 0) g j_at))
