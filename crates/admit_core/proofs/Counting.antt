-- Counting candidates: those who are served in an order, and those who are freed nothing.
use Rattle.std.proofs.Common.{ℕ, zero, suc, ◌+◌, ◌≤◌, ◌<◌, ◌≡◌, ◌⊎◌, Bool, true, false, cond, not, ◌&&◌, List, [], ◌∷◌}
use Rattle.std.proofs.Common.{map, length, take, inl, inr, refl, sym, ◌∙◌, ap, arith, filter, nat_eq, count_by, get_or}
use Rattle.std.proofs.Common.{add-one}
use Rattle.std.specs.Prelude.{sum}
use Rattle.std.specs.List.{IsDistinct, position_or_len, range_with_len, sum_by}
use Rattle.std.proofs.lemmas.Bool.{and_parts, and_from, cases_Bool, cases_lt, eqb-true, eq-eqb, false≢true, and_cases}
use Rattle.std.proofs.lemmas.Bool.{not-false}
use Rattle.std.proofs.lemmas.Cmp.{nat_eq_equiv}
use Rattle.std.proofs.lemmas.List.{take-take, map-id}
use Rattle.std.proofs.lemmas.List.Sums.{count_by_more_yes, count_by_more_no, sum_by-take-le, get_or-le-sum_by, sum-map}
use Rattle.std.proofs.lemmas.List.Sums.{fails_before_first}
use Rattle.std.proofs.lemmas.List.Folds.{Any-from_list_any}
use Rattle.std.proofs.lemmas.List.FromFn.{get_or-range_with_len, length-range_with_len}
use Rattle.std.proofs.lemmas.Map.Made.{length-le_from_is_member, is_member-filter}
use Rattle.admit_core.specs.Lists.{is_among}
use Rattle.admit_core.proofs.Tests.{Implies}
use Rattle.admit_core.proofs.OrderPermutes.{distinct_filter}

step_yes : (p : ℕ → Bool) (xs : List ℕ) (n : ℕ) → n < length xs → p (get_or xs n 0) ≡ true
    → count_by p (take (suc n) xs) ≡ count_by p (take n xs) + 1
step_yes p xs n lt t = rw (← add-one n) (count_by_more_yes p xs n 0 lt t)

step_no : (p : ℕ → Bool) (xs : List ℕ) (n : ℕ) → n < length xs → p (get_or xs n 0) ≡ false
    → count_by p (take (suc n) xs) ≡ count_by p (take n xs)
step_no p xs n lt t = rw (← add-one n) (count_by_more_no p xs n 0 lt t)

-- a longer prefix counts at least as many
pub count_front : (p : ℕ → Bool) (xs : List ℕ) (j k : ℕ) → j ≤ k → count_by p (take j xs) ≤ count_by p (take k xs)
count_front p xs j k le =
    let part : sum_by (λ (x : ℕ). cond (p x) 1 0) (take j (take k xs)) ≤ count_by p (take k xs) =
    sum_by-take-le (λ (x : ℕ). cond (p x) 1 0) (take k xs) j in
    rw (take-take j k xs le) at part

-- who stands at a place of the order stands first at that place or before it
pub first_at_most : (c : ℕ) (xs : List ℕ) (k : ℕ) → get_or xs k 0 ≡ c → position_or_len (nat_eq c) xs ≤ k
first_at_most c xs k at =
    elim (cases_lt k (position_or_len (nat_eq c) xs)) [
      | inl before ↦ absurd
          (false≢true (sym (fails_before_first (nat_eq c) xs k 0 before) ∙ eq-eqb c (get_or xs k 0) (sym at)))
      | inr le ↦ le
    ]

-- where each one who wants takes as long as fewer than `left` who want stand before them, the first `left` of those who
-- want take
pub served : (wants takes : ℕ → Bool) (left : ℕ) (xs : List ℕ) (n : ℕ) → n ≤ length xs
    → ((k : ℕ) → k < n → wants (get_or xs k 0) ≡ true → count_by wants (take k xs) < left
    → takes (get_or xs k 0) ≡ true)
    → (left ≤ count_by takes (take n xs)) ⊎ (count_by wants (take n xs) ≤ count_by takes (take n xs))
served wants takes left xs zero le h = inr (omega arith)
served wants takes left xs (suc n) le h =
    let lt : n < length xs = omega arith in
    let grows : count_by takes (take n xs) ≤ count_by takes (take (suc n) xs) =
    count_front takes xs n (suc n) (omega arith) in
    elim (served wants takes left xs n (omega arith) (λ k k_lt. h k (omega arith))) [
      | inl full ↦ inl (omega (arith, full, grows))
      | inr all ↦
          elim (cases_Bool (wants (get_or xs n 0))) [
            | inr wants_none ↦ inr (omega (arith, step_no wants xs n lt wants_none, all, grows))
            | inl wants_one ↦
                elim (cases_lt (count_by wants (take n xs)) left) [
                  | inl early ↦ inr (omega (
                    arith,
                    step_yes wants xs n lt wants_one,
                    step_yes takes xs n lt
                        (h n (omega arith) wants_one early),
                    all,
                  ))
                  | inr late ↦ inl (omega (arith, late, all, grows))
                ]
          ]
    ]

-- a filter leaves numbers distinct
pub distinct_kept : (test : ℕ → Bool) (xs : List ℕ) → IsDistinct nat_eq xs → IsDistinct nat_eq (filter test xs)
distinct_kept test xs apart = rw map-id at (distinct_filter (λ (x : ℕ). x) test xs (rw map-id apart))

-- of distinct numbers as many pass as of a list that has all those who pass
pub pass_at_most : (test : ℕ → Bool) (xs ys : List ℕ) → IsDistinct nat_eq xs
    → ((c : ℕ) → test c ≡ true → is_among c ys ≡ true)
    → length (filter test xs) ≤ length (filter test ys)
pass_at_most test xs ys apart there =
    length-le_from_is_member nat_eq_equiv (filter test xs) (filter test ys) (distinct_kept test xs apart)
    (λ q t.
    let parts = and_parts (is_among q xs) (test q)
    (sym (is_member-filter nat_eq_equiv test q (λ x same. ap test (eqb-true q x same)) xs) ∙ t) in
    is_member-filter nat_eq_equiv test q (λ x same. ap test (eqb-true q x same)) ys
    ∙ and_from (is_among q ys) (test q) (there q parts.1) parts.1)

split_step : (a b : Bool) (x : ℕ) (first second both : List ℕ) → (a ≡ true → b ≡ true)
    → length first + length second ≤ length both
    → length (cond a (x ∷ first) first) + length (cond (b && not a) (x ∷ second) second)
    ≤ length (cond b (x ∷ both) both)
split_step true true x first second both h le = omega arith
split_step true false x first second both h le = let e : false ≡ true = h refl in (cc)
split_step false true x first second both h le = omega arith
split_step false false x first second both h le = le

-- those who pass the stronger test, and those who pass the weaker alone, all pass the weaker
pub split_count : (a b : ℕ → Bool) → Implies a b → (xs : List ℕ)
    → length (filter a xs) + length (filter (λ x. b x && not (a x)) xs) ≤ length (filter b xs)
split_count a b h [] = omega arith
split_count a b h (x ∷ xs) =
    split_step (a x) (b x) x (filter a xs) (filter (λ y. b y && not (a y)) xs) (filter b xs) (h x)
    (split_count a b h xs)

-- a sum of 0 has no other term
zero_term : (g : ℕ → ℕ) (cs : List ℕ) (c : ℕ) → sum (map g cs) ≡ 0 → is_among c cs ≡ true → g c ≡ 0
zero_term g cs c none t =
    let (i, x, lt, at, same) = Any-from_list_any (nat_eq c) cs t in
    let le : g (get_or cs i x) ≤ sum_by g cs = get_or-le-sum_by g cs i x lt in
    let is : get_or cs i x ≡ c = at ∙ sym (eqb-true c x same) in
    omega (arith, rw is at le, sum-map g cs, none)

-- a count of 0 over the numbers below n has none that passes
none_passes : (test : ℕ → Bool) (n p : ℕ) → count_by test (range_with_len 0 n) ≡ 0 → p < n → test p ≡ false
none_passes test n p none lt =
    let f : ℕ → ℕ = λ x. cond (test x) 1 0 in
    let le : f (get_or (range_with_len 0 n) p 0) ≤ count_by test (range_with_len 0 n) =
    get_or-le-sum_by f (range_with_len 0 n) p 0 (rw length-range_with_len lt) in
    let here : get_or (range_with_len 0 n) p 0 ≡ p = get_or-range_with_len 0 n p 0 lt ∙ omega arith in
    elim (cases_Bool (test p)) [
      | inl passes ↦ absurd (omega (arith, none, rw (here, passes) at le))
      | inr fails ↦ fails
    ]

-- where nothing is freed, who held holds
pub nothing_freed : (old new : ℕ → ℕ → Bool) (n : ℕ) (cs : List ℕ)
    → sum (map (λ c. count_by (λ p. old c p && not (new c p)) (range_with_len 0 n)) cs) ≡ 0
    → (c p : ℕ) → is_among c cs ≡ true → p < n → old c p ≡ true → new c p ≡ true
nothing_freed old new n cs none c p among lt held =
    let zero_here = zero_term (λ c. count_by (λ p. old c p && not (new c p)) (range_with_len 0 n)) cs c none among in
    let fails = none_passes (λ p. old c p && not (new c p)) n p zero_here lt in
    elim (and_cases (old c p) (not (new c p)) fails) [
      | inl not_held ↦ absurd (false≢true (sym not_held ∙ held))
      | inr holds ↦ not-false (new c p) holds
    ]
