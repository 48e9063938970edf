-- What is noted of the candidates of a matching, one after another: how many each programme has.
use Rattle.std.proofs.Common.{ℕ, ◌+◌, ◌-◌, ◌≤◌, ◌<◌, ◌≡◌, Bool, true, false, cond, List, [], ◌∷◌, ◌++◌, length, get_or}
use Rattle.std.proofs.Common.{inl, inr, refl, ◌∙◌, ap, subst, arith, nat_eq, filter, Option, Some, None, set}
use Rattle.std.specs.Prelude.{slice_index, replicate}
use Rattle.std.specs.List.{range_with_len}
use Rattle.std.proofs.lemmas.Bool.{cases_eq, eq-eqb, ne_eqb}
use Rattle.std.proofs.lemmas.List.{length-set, length-append, length-replicate, get_or-replicate, get_or-set_same}
use Rattle.std.proofs.lemmas.List.{get_or-set_other}
use Rattle.std.proofs.lemmas.List.FromFn.{length-range_with_len}
use Rattle.std.proofs.lemmas.List.Sums.{length-filter, count_by-le-length}
use Rattle.bar_fixpoint.proofs.Listing.{filter_more}
use Rattle.day_state.specs.Kept.{one_if}
use Rattle.day_state.proofs.Bundled.{count_turned}
use Rattle.markets.specs.Matchings.{place_of, is_at, holders}
use Rattle.markets.specs.Fillings.{counted_in}
use Rattle.markets.specs.Rounds.{AreCounts}

-- those of the first k candidates who have a place in a programme
abbrev pub holders_to : List (Option ℕ) → ℕ → ℕ → List ℕ
holders_to places p k = filter (λ y. is_at p (place_of places y)) (range_with_len 0 k)

-- how many they are
pub record AreCountsTo (n : ℕ) (places : List (Option ℕ)) (k : ℕ) (counts : List ℕ) : Type 0 where
  pub one_each : length counts ≡ n
  pub each : (p : ℕ) → p < n → slice_index counts p ≡ length (holders_to places p k)

pub few_to : (places : List (Option ℕ)) (p k : ℕ) → length (holders_to places p k) ≤ k
few_to places p k =
    let t : ℕ → Bool = λ y. is_at p (place_of places y) in
    omega (
      arith,
      length-filter t (range_with_len 0 k),
      count_by-le-length t
          (range_with_len 0 k),
      length-range_with_len 0 k,
    )

one_more : (t : Bool) (xs : List ℕ) (k : ℕ) → length (xs ++ cond t (k ∷ []) []) ≡ length xs + one_if t
one_more true xs k = length-append xs (k ∷ [])
one_more false xs k = length-append xs []

-- one more where a place is
pub added : (counts : List ℕ) (o : Option ℕ) (p : ℕ) → ((q : ℕ) → o ≡ Some q → q < length counts)
    → slice_index (counted_in counts o) p ≡ slice_index counts p + one_if (is_at p o)
added counts None p within = omega arith
added counts (Some q) p within =
    elim (cases_eq p q) [
      | inl here ↦
          let now : slice_index (set counts q (slice_index counts q + 1)) p ≡ slice_index counts q + 1 =
          ap (slice_index (set counts q (slice_index counts q + 1))) here
          ∙ get_or-set_same counts q (slice_index counts q + 1) 0 (within q refl) in
          let one : one_if (nat_eq p q) ≡ 1 = ap one_if (eq-eqb p q here) in
          omega (arith, now, one, ap (slice_index counts) here)
      | inr other ↦
          let now : slice_index (set counts q (slice_index counts q + 1)) p ≡ slice_index counts p =
          get_or-set_other counts q p
          (slice_index counts q + 1) 0 other in
          let none : one_if (nat_eq p q) ≡ 0 = ap one_if (ne_eqb p q other) in
          omega (arith, now, none)
    ]

pub as_long : (counts : List ℕ) (o : Option ℕ) → length (counted_in counts o) ≡ length counts
as_long counts None = refl
as_long counts (Some q) = length-set counts q (slice_index counts q + 1)

pub counts_none : (n : ℕ) (places : List (Option ℕ)) (counts : List ℕ) → counts ≡ replicate n 0
    → AreCountsTo n places 0 counts
counts_none n places counts are =
    record {
      one_each = ap length are ∙ length-replicate n 0;
      each = λ p lt. ap (λ (xs : List ℕ). get_or xs p 0) are ∙ get_or-replicate n p 0 0 lt;
    }

pub counts_more : (n : ℕ) (places : List (Option ℕ)) (k : ℕ) (counts new : List ℕ) (o : Option ℕ)
    → place_of places k ≡ o
    → ((p : ℕ) → o ≡ Some p → p < n)
    → AreCountsTo n places k counts → new ≡ counted_in counts o → AreCountsTo n places (k + 1) new
counts_more n places k counts new o is within are new_is =
    record {
      one_each = ap length new_is ∙ as_long counts o ∙ are.one_each;
      each = λ p lt.
          let t : ℕ → Bool = λ y. is_at p (place_of places y) in
          let grown : length (holders_to places p (k + 1)) ≡ length (holders_to places p k) + one_if (t k) =
          ap length (filter_more t k) ∙ one_more (t k) (holders_to places p k) k in
          omega (
            arith,
            ap (λ (xs : List ℕ). get_or xs p 0) new_is,
            added counts o p (λ q e. omega (arith, within q e, are.one_each)),
            are.each p lt,
            grown,
            ap (λ (x : Option ℕ). one_if (is_at p x)) is,
          );
    }

pub counts_all : (n k : ℕ) (places : List (Option ℕ)) (counts : List ℕ) → k ≡ length places
    → AreCountsTo n places k counts
    → AreCounts n places counts
counts_all n k places counts k_is are =
    let P : ℕ → Type 0 = λ j. AreCountsTo n places j counts in
    let whole = subst P k_is are in
    record { one_each = whole.one_each; each = whole.each }

-- how many have a place, once one candidate has another
turned : (places : List (Option ℕ)) (x p : ℕ) (place : Option ℕ) → x < length places
    → length (holders (set places x place) p) + one_if (is_at p (place_of places x))
    ≡ length (holders places p) + one_if (is_at p place)
turned places x p place lt =
    let t : ℕ → Bool = λ y. is_at p (place_of places y) in
    let u : ℕ → Bool = λ y. is_at p (place_of (set places x place) y) in
    ap (λ n. length (filter u (range_with_len 0 n)) + one_if (t x)) (length-set places x place)
    ∙ count_turned t u x 0 (length places) (omega arith) (omega (arith, lt))
    (λ j other. ap (is_at p) (get_or-set_other places x j place None other))
    ∙ ap (λ (o : Option ℕ). length (holders places p) + one_if (is_at p o)) (get_or-set_same places x place None lt)

-- whoever has a place is counted
pub one_holds : (places : List (Option ℕ)) (x had : ℕ) → x < length places → place_of places x ≡ Some had
    → 1 ≤ length (holders places had)
one_holds places x had lt is =
    let one : one_if (is_at had (place_of places x)) ≡ 1 = ap (λ (o : Option ℕ). one_if (is_at had o)) is
    ∙ ap one_if (eq-eqb had had refl) in
    omega (arith, turned places x had None lt, one)

pub counts_put : (n : ℕ) (places : List (Option ℕ)) (x had : ℕ) (place : Option ℕ) (counts new : List ℕ)
    → x < length places
    → place_of places x ≡ Some had → had < n
    → ((p : ℕ) → place ≡ Some p → p < n) → AreCounts n places counts
    → new ≡ counted_in (set counts had (slice_index counts had - 1)) place → AreCounts n (set places x place) new
counts_put n places x had place counts new lt is had_lt within are new_is =
    let less : List ℕ = set counts had (slice_index counts had - 1) in
    let less_long : length less ≡ n = length-set counts had (slice_index counts had - 1) ∙ are.one_each in
    let some : 1 ≤ slice_index counts had = omega (arith, are.each had had_lt, one_holds places x had lt is) in
    record {
      one_each = ap length new_is ∙ as_long less place ∙ less_long;
      each = λ p p_lt.
          let dropped : slice_index less p + one_if (is_at p (Some had)) ≡ slice_index counts p =
          elim (cases_eq p had) [
            | inl here ↦
                let now : slice_index less p ≡ slice_index counts had - 1 =
                ap (slice_index less) here ∙ get_or-set_same counts had (slice_index counts had - 1) 0
                (omega (arith, had_lt, are.one_each)) in
                let one : one_if (nat_eq p had) ≡ 1 = ap one_if (eq-eqb p had here) in
                omega (arith, now, one, some, ap (slice_index counts) here)
            | inr other ↦
                let now : slice_index less p ≡ slice_index counts p =
                get_or-set_other counts had p (slice_index counts had - 1) 0 other in
                let none : one_if (nat_eq p had) ≡ 0 = ap one_if (ne_eqb p had other) in
                omega (arith, now, none)
          ] in
          omega (
            arith,
            ap (λ (xs : List ℕ). get_or xs p 0) new_is,
            added less place p (λ q e. omega (arith, within q e, less_long)),
            dropped,
            are.each p p_lt,
            turned places x p place lt,
            ap (λ (o : Option ℕ). one_if (is_at p o)) is,
          );
    }

-- counts that one is taken from fit
pub put_few : (n : ℕ) (places : List (Option ℕ)) (counts : List ℕ) (had v p : ℕ) → AreCounts n places counts → had < n
    → p < n
    → v ≤ slice_index counts had
    → slice_index (set counts had v) p ≤ length places
put_few n places counts had v p are had_lt lt le =
    elim (cases_eq p had) [
      | inl here ↦
          omega (
            arith,
            ap (slice_index (set counts had v)) here,
            get_or-set_same counts had v 0 (omega (arith, had_lt, are.one_each)),
            le,
            are.each had had_lt,
            few_to places had (length places),
          )
      | inr other ↦ omega (
        arith,
        get_or-set_other counts had p v 0 other,
        are.each p lt,
        few_to places p
            (length places),
      )
    ]

-- a count fits
pub count_few : (n : ℕ) (places : List (Option ℕ)) (counts : List ℕ) (p : ℕ) → AreCounts n places counts → p < n
    → slice_index counts p ≤ length places
count_few n places counts p are lt = omega (arith, are.each p lt, few_to places p (length places))
