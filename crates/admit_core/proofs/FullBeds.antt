-- Under the greatest bars of a lawful system, a place whose bar is below its ceiling is full: else its bar could rise
-- by one.
use Rattle.std.proofs.Common.{ℕ, suc, ◌+◌, ◌≤◌, ◌<◌, ◌≡◌, ◌⊎◌, ap, true, List, ◌∷◌, length, inl, inr, refl, sym, arith}
use Rattle.std.proofs.Common.{nat_eq, get_or, set}
use Rattle.std.specs.Prelude.{slice_index}
use Rattle.std.specs.List.{IsDistinct}
use Rattle.std.specs.List.Sorted.{IsStrictlyIncreasing}
use Rattle.std.proofs.lemmas.Bool.{cases_lt, cases_eq, ne_eqb, eq-eqb, eqb-true, or_left, or_right}
use Rattle.std.proofs.lemmas.Cmp.{nat_eq_equiv}
use Rattle.std.proofs.lemmas.List.{length-set, get_or_past}
use Rattle.std.proofs.lemmas.Map.Views.{Contains-from_any, list_any-from_Contains}
use Rattle.std.proofs.lemmas.Map.Made.{length-le_from_is_member}
use Rattle.std.proofs.lemmas.Map.Keys.{IsDistinct-from_apart, below_from_sorted, sorted_from_strictly_increasing}
use Rattle.std.proofs.lemmas.Grind.{get_or-set_at}
use Rattle.admit_core.specs.Lists.{is_among}
use Rattle.admit_core.specs.Falls.{FallingSystem, IsAtMost, IsLawful, Fits, IsGreatest}
use Rattle.admit_core.proofs.FallsLaw.{at_set}

-- no number stands twice in a rising list
pub rising_distinct : (xs : List ℕ) → IsStrictlyIncreasing xs → IsDistinct nat_eq xs
rising_distinct xs rising =
    IsDistinct-from_apart nat_eq xs (λ i j d i_lt j_lt.
    ne_eqb (get_or xs i d) (get_or xs j d)
    (λ e. let below = below_from_sorted xs i j d (sorted_from_strictly_increasing xs rising) i_lt j_lt in
    omega (arith, below, e)))

module _ (sys : FallingSystem) (lawful : IsLawful sys) (bars : List ℕ) (greatest : IsGreatest sys bars) (i : ℕ)
    (low : slice_index bars i < slice_index sys.ceilings i) where
  raised : List ℕ
  raised = set bars i (slice_index bars i + 1)

  within : i < length bars
  within =
      elim (cases_lt i (length bars)) [
        | inl lt ↦ lt
        | inr past ↦ absurd (omega (
          arith,
          low,
          get_or_past sys.ceilings i 0
              (omega (arith, past, greatest.fits.under_ceilings.as_many)),
        ))
      ]

  at_raised : (j : ℕ) → ((j ≡ i) × (slice_index raised j ≡ slice_index bars i + 1)) ⊎
      (slice_index raised j ≡ slice_index bars j)
  unfolding raised
  at_raised j = at_set bars i (slice_index bars i + 1) j within

  raised_here : slice_index raised i ≡ slice_index bars i + 1
  unfolding raised
  raised_here = get_or-set_at bars i i (slice_index bars i + 1) 0 refl within

  raised_long : length raised ≡ length bars
  unfolding raised
  raised_long = length-set bars i (slice_index bars i + 1)

  above : IsAtMost bars raised
  above =
      record {
        as_many = sym raised_long;
        each = λ j. elim (at_raised j) [
          | inl here ↦ omega (arith, here.1, ap (slice_index bars) here.0)
          | inr there ↦
              omega (arith, there)
        ];
      }

  under : IsAtMost raised sys.ceilings
  under =
      record {
        as_many = omega (arith, raised_long, greatest.fits.under_ceilings.as_many);
        each = λ j.
            elim (at_raised j) [
              | inl here ↦ omega (arith, here.1, low, ap (slice_index sys.ceilings) here.0)
              | inr there ↦ omega (arith, there, greatest.fits.under_ceilings.each j)
            ];
      }

  -- a rank that is demanded under the raised bars and is at most the bar is demanded under the bars
  stays : (j q : ℕ) → j < length bars → is_among q (sys.ranks raised j) ≡ true → q ≤ slice_index bars j
      → is_among q (sys.ranks bars j) ≡ true
  stays j q lt t le =
      list_any-from_Contains nat_eq_equiv q (sys.ranks bars j)
      (lawful.stay_demanded bars raised j q above under lt (Contains-from_any eqb-true q (sys.ranks raised j) t) le)

  -- a demanded rank is at most the raised bar
  at_most : (j q : ℕ) → j < length bars → is_among q (sys.ranks raised j) ≡ true → q ≤ slice_index raised j
  at_most j q lt t = lawful.to_bar raised j q under (omega (arith, lt, raised_long))
      (Contains-from_any eqb-true q (sys.ranks raised j) t)

  distinct : (j : ℕ) → j < length bars → IsDistinct nat_eq (sys.ranks raised j)
  distinct j lt = rising_distinct (sys.ranks raised j)
      (lawful.ascending raised j under (omega (arith, lt, raised_long)))

  -- at the raised place one more rank may be demanded
  one_more : length (sys.ranks raised i) ≤ suc (length (sys.ranks bars i))
  one_more =
      length-le_from_is_member nat_eq_equiv (sys.ranks raised i) ((slice_index bars i + 1) ∷ sys.ranks bars i)
      (distinct i within)
      (λ q t.
      elim (cases_eq q (slice_index bars i + 1)) [
        | inl same ↦ or_left (nat_eq q (slice_index bars i + 1)) (is_among q (sys.ranks bars i))
            (eq-eqb q (slice_index bars i + 1) same)
        | inr other ↦
            or_right (nat_eq q (slice_index bars i + 1)) (is_among q (sys.ranks bars i))
            (stays i q within t (omega (arith, at_most i q within t, raised_here)))
      ])

  -- at the other places no more are
  no_more : (j : ℕ) → j < length bars → slice_index raised j ≡ slice_index bars j
      → length (sys.ranks raised j) ≤ length (sys.ranks bars j)
  no_more j lt same =
      length-le_from_is_member nat_eq_equiv (sys.ranks raised j) (sys.ranks bars j) (distinct j lt)
      (λ q t. stays j q lt t (omega (arith, at_most j q lt t, same)))

  pub full_below : length (sys.ranks bars i) ≡ slice_index sys.free i
  full_below =
      elim (cases_lt (length (sys.ranks bars i)) (slice_index sys.free i)) [
        | inl room ↦
            let fits : Fits sys raised =
            record {
              under_ceilings = under;
              room = λ j lt.
                  let j_lt : j < length bars = omega (arith, lt, greatest.fits.under_ceilings.as_many) in
                  elim (at_raised j) [
                    | inl here ↦ rw here.0 (omega (arith, one_more, room))
                    | inr there ↦ omega (arith, no_more j j_lt there, greatest.fits.room j lt)
                  ];
            } in
            let le = (greatest.greatest raised fits).each i in
            absurd (omega (arith, le, raised_here))
        | inr full ↦ omega (
          arith,
          full,
          greatest.fits.room i
              (omega (arith, within, greatest.fits.under_ceilings.as_many)),
        )
      ]
