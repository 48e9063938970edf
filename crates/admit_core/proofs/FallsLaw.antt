-- Every run of falls of a lawful system ends at its greatest bars.
use Rattle.std.proofs.Common.{ℕ, zero-add, suc, ◌-◌, ◌≤◌, ◌<◌, ◌≡◌, ◌⊎◌, ap, true, not, List, [], ◌∷◌, length, take}
use Rattle.std.proofs.Common.{inl, inr, refl, sym, subst, arith, nat_eq, nat_lt, get_or, set}
use Rattle.std.specs.Prelude.{slice_index}
use Rattle.std.specs.List.{IsDistinct, range_with_len}
use Rattle.std.specs.List.Sorted.{IsStrictlyIncreasing}
use Rattle.std.proofs.lemmas.Bool.{and_cases, not-true, ltb-false, and_parts, cases_lt, cases_eq, ne_eqb, ltb-true}
use Rattle.std.proofs.lemmas.Bool.{eqb-true, eq-eqb}
use Rattle.std.proofs.lemmas.Cmp.{nat_eq_equiv}
use Rattle.std.proofs.lemmas.List.{length-take-le, get_or-take, get_or_default, get_or-set_other, length-set}
use Rattle.std.proofs.lemmas.List.FromFn.{length-range_with_len, get_or-range_with_len}
use Rattle.std.proofs.lemmas.List.Sums.{AllPass-from_list_all}
use Rattle.std.proofs.lemmas.Grind.{get_or-set_at}
use Rattle.std.proofs.lemmas.List.Folds.{Any-from_list_any, list_any_at}
use Rattle.std.proofs.lemmas.List.Elements.{Contains-get_or}
use Rattle.std.proofs.lemmas.Map.Views.{Contains-from_any, list_any-from_Contains}
use Rattle.std.proofs.lemmas.Map.Made.{length-le_from_is_member}
use Rattle.std.proofs.lemmas.Map.Keys.{IsDistinct-from_apart, below_from_sorted, sorted_from_strictly_increasing}
use Rattle.admit_core.specs.declared.records.Fall.{Fall}
use Rattle.admit_core.specs.Lists.{is_among}
use Rattle.admit_core.specs.Falls.{FallingSystem, IsAtMost, IsLawful, Fits, IsGreatest, is_overfilled, is_settled}
use Rattle.admit_core.specs.Falls.{fall_of, fallen, bars_after, AreFalls, IsRunOfFalls}

-- the ranks up to place n are at most the one there, and are among all
among_front : (xs : List ℕ) → IsStrictlyIncreasing xs → (n q : ℕ) → n < length xs → is_among q (take (suc n) xs) ≡ true
    → (q ≤ slice_index xs n) × (is_among q xs ≡ true)
among_front xs rising n q lt t =
    let (k, x, within, at, same) = Any-from_list_any (nat_eq q) (take (suc n) xs) t in
    let whole = length-take-le (suc n) xs lt in
    let k_in : k < suc n = omega (arith, whole) in
    let k_len : k < length xs = omega arith in
    let taken = get_or-take (suc n) xs k x k_in in
    let by_zero = get_or_default xs k x 0 k_len in
    let same_x = eqb-true q x same in
    let is : q ≡ get_or xs k 0 = (cc) in
    let at_most : q ≤ get_or xs n 0 =
    elim (cases_lt k n) [
      | inl earlier ↦
          let below = below_from_sorted xs k n 0 (sorted_from_strictly_increasing xs rising) earlier lt in
          omega (arith, below, is)
      | inr last ↦ let e : k ≡ n = omega arith in rw (is, e) (omega arith)
    ] in
    (at_most, list_any_at (nat_eq q) xs k 0 k_len (eq-eqb q (get_or xs k 0) is))

-- no number stands twice
front_distinct : (xs : List ℕ) → IsStrictlyIncreasing xs → (n : ℕ) → n < length xs → IsDistinct nat_eq (take (suc n) xs)
front_distinct xs rising n lt =
    IsDistinct-from_apart nat_eq (take (suc n) xs) (λ i j d i_lt j_lt.
    let whole = length-take-le (suc n) xs lt in
    let j_in : j < suc n = omega (arith, whole) in
    let i_in : i < suc n = omega arith in
    rw (get_or-take (suc n) xs i d i_in, get_or-take (suc n) xs j d j_in)
    (ne_eqb (get_or xs i d) (get_or xs j d)
    (λ e. let below = below_from_sorted xs i j d (sorted_from_strictly_increasing xs rising) i_lt
    (omega (arith, whole)) in omega (arith, below, e))))

-- a list with each of the first n + 1 rising numbers has more than n
more_than : (xs ys : List ℕ) → IsStrictlyIncreasing xs → (n : ℕ) → n < length xs
    → ((q : ℕ) → q ≤ slice_index xs n → is_among q xs ≡ true → is_among q ys ≡ true) → n < length ys
more_than xs ys rising n lt f =
    let fewer = length-le_from_is_member nat_eq_equiv (take (suc n) xs) ys (front_distinct xs rising n lt)
    (λ q t. let front = among_front xs rising n q lt t in f q front.0 front.1) in
    omega (arith, fewer, length-take-le (suc n) xs lt)

-- a write reaches its place alone
pub at_set : (xs : List ℕ) (i v j : ℕ) → i < length xs
    → ((j ≡ i) × (slice_index (set xs i v) j ≡ v)) ⊎ (slice_index (set xs i v) j ≡ slice_index xs j)
at_set xs i v j lt =
    elim (cases_eq j i) [
      | inl same ↦ inl (same, get_or-set_at xs i j v 0 same lt)
      | inr other ↦ inr (get_or-set_other xs i j v 0 other)
    ]

module _ (sys : FallingSystem) (lawful : IsLawful sys) where
  -- an overfilled place, and its first rank that has no bed
  pub over_in : (bars : List ℕ) (i : ℕ) → is_overfilled sys bars i ≡ true
      → (i < length sys.ceilings) × (slice_index sys.free i < length (sys.ranks bars i))
  over_in bars i over =
      let tests = and_parts (nat_lt i (length sys.ceilings))
      (nat_lt (slice_index sys.free i) (length (sys.ranks bars i))) over in
      (ltb-true i (length sys.ceilings) tests.0, ltb-true (slice_index sys.free i) (length (sys.ranks bars i)) tests.1)

  -- the first rank that has no bed is from 1 to the bar
  pub over_rank : (bars : List ℕ) (i : ℕ) → IsAtMost bars sys.ceilings → is_overfilled sys bars i ≡ true
      → (1 ≤ slice_index (sys.ranks bars i) (slice_index sys.free i))
      × (slice_index (sys.ranks bars i) (slice_index sys.free i) ≤ slice_index bars i)
  over_rank bars i under over =
      let ranks = sys.ranks bars i in
      let free = slice_index sys.free i in
      let r = slice_index ranks free in
      let in_range = over_in bars i over in
      let i_bar : i < length bars = omega (arith, in_range.0, under.as_many) in
      let demanded = Contains-get_or ranks free 0 in_range.1 in
      (lawful.from_one bars i r under i_bar demanded, lawful.to_bar bars i r under i_bar demanded)

  -- a fall keeps the bars under the ceilings
  pub falls_under : (bars : List ℕ) (i : ℕ) → IsAtMost bars sys.ceilings → is_overfilled sys bars i ≡ true
      → IsAtMost (fallen bars (fall_of sys bars i)) sys.ceilings
  falls_under bars i under over =
      let free = slice_index sys.free i in
      let ranks = sys.ranks bars i in
      let r = slice_index ranks free in
      let in_range = over_in bars i over in
      let below = over_rank bars i under over in
      let i_bar : i < length bars = omega (arith, in_range.0, under.as_many) in
      record {
        as_many = rw length-set under.as_many;
        each = λ j.
            elim (at_set bars i (r - 1) j i_bar) [
              | inl here ↦ omega (arith, here.0, here.1, below.1, under.each j, ap (slice_index bars) here.0)
              | inr there ↦ omega (arith, there, under.each j)
            ];
      }

  -- bars that fit stay at most the bars after a fall
  pub stays_under : (others : List ℕ) → Fits sys others → (bars : List ℕ) (i : ℕ) → IsAtMost bars sys.ceilings
      → IsAtMost others bars
      → is_overfilled sys bars i ≡ true → IsAtMost others (fallen bars (fall_of sys bars i))
  stays_under others fits bars i under at_most over =
      let free = slice_index sys.free i in
      let ranks = sys.ranks bars i in
      let r = slice_index ranks free in
      let in_range = over_in bars i over in
      let i_bar : i < length bars = omega (arith, in_range.0, under.as_many) in
      let i_other : i < length others = omega (arith, i_bar, at_most.as_many) in
      let below : slice_index others i < r =
      elim (cases_lt (slice_index others i) r) [
        | inl lt ↦ lt
        | inr le ↦
            let too_many = more_than ranks (sys.ranks others i) (lawful.ascending bars i under i_bar) free in_range.1
            (λ q q_le among. list_any-from_Contains nat_eq_equiv q (sys.ranks others i)
            (lawful.stay_demanded others bars i q at_most under i_other (Contains-from_any eqb-true q ranks among)
            (omega arith))) in
            absurd (omega (arith, too_many, fits.room i in_range.0))
      ] in
      record {
        as_many = rw length-set at_most.as_many;
        each = λ j.
            elim (at_set bars i (r - 1) j i_bar) [
              | inl here ↦ omega (arith, here.1, below, ap (slice_index others) here.0)
              | inr there ↦ omega (arith, there, at_most.each j)
            ];
      }

  pub all_under : (bars : List ℕ) (falls : List Fall) → IsAtMost bars sys.ceilings → AreFalls sys bars falls
      → IsAtMost (bars_after bars falls) sys.ceilings
  all_under bars [] under are = under
  all_under bars (f ∷ fs) under are =
      let step = falls_under bars f.school under are.0 in
      all_under (fallen bars f) fs (subst (λ (g : Fall). IsAtMost (fallen bars g) sys.ceilings) (sym are.1) step) are.2

  pub all_above : (others : List ℕ) → Fits sys others → (bars : List ℕ) (falls : List Fall) → IsAtMost bars sys.ceilings
      → IsAtMost others bars
      → AreFalls sys bars falls → IsAtMost others (bars_after bars falls)
  all_above others fits bars [] under at_most are = at_most
  all_above others fits bars (f ∷ fs) under at_most are =
      let step = falls_under bars f.school under are.0 in
      let above = stays_under others fits bars f.school under at_most are.0 in
      all_above others fits (fallen bars f) fs
      (subst (λ (g : Fall). IsAtMost (fallen bars g) sys.ceilings) (sym are.1) step)
      (subst (λ (g : Fall). IsAtMost others (fallen bars g)) (sym are.1) above)
      are.2

  -- where no place is overfilled there is room
  pub room_from : (bars : List ℕ) → is_settled sys bars ≡ true → (i : ℕ) → i < length sys.ceilings
      → length (sys.ranks bars i) ≤ slice_index sys.free i
  room_from bars settled i lt =
      let n = length sys.ceilings in
      let passes = AllPass-from_list_all (λ k. not (is_overfilled sys bars k)) (range_with_len 0 n) settled i 0
      (rw length-range_with_len lt) in
      let not_over : not (is_overfilled sys bars i) ≡ true =
      rw (get_or-range_with_len 0 n i 0 lt, zero-add i) at passes in
      elim (and_cases (nat_lt i n) (nat_lt (slice_index sys.free i) (length (sys.ranks bars i)))
      (not-true (is_overfilled sys bars i) not_over)) [
        | inl outside ↦ absurd (omega (arith, ltb-false i n outside))
        | inr within ↦ ltb-false (slice_index sys.free i) (length (sys.ranks bars i)) within
      ]

  pub run_is_greatest : (falls : List Fall) → IsRunOfFalls sys falls → IsGreatest sys (bars_after sys.ceilings falls)
  run_is_greatest falls run =
      let start : IsAtMost sys.ceilings sys.ceilings = record { as_many = refl; each = λ i. omega arith } in
      record {
        fits = record {
          under_ceilings = all_under sys.ceilings falls start run.are_falls;
          room = room_from (bars_after sys.ceilings falls) run.settled;
        };
        greatest = λ others fits. all_above others fits sys.ceilings falls start fits.under_ceilings run.are_falls;
      }
