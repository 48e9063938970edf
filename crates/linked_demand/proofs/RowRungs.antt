-- The ranks that are known along a row: its last place is added or taken away, and flags change.
use Rattle.std.proofs.Common.{ℕ, zero, suc, ◌+◌, ◌≤◌, ◌<◌, ◌≡◌, Bool, true, false, List, [], ◌∷◌, ◌++◌, ◌||◌}
use Rattle.std.proofs.Common.{length, get_or, inl, inr, refl, sym, ◌∙◌, ap, arith, nat_eq, set}
use Rattle.std.proofs.Common.{Some, Option, unwrap_or, option_map}
use Rattle.std.specs.Prelude.{slice_get}
use Rattle.std.specs.List.Sorted.{IsNonDecreasingBy}
use Rattle.std.proofs.lemmas.Bool.{cases_Bool, cases_eq, false≢true, eq-eqb, eqb-true, ltb-true, ltb-false, ne_eqb}
use Rattle.std.proofs.lemmas.Bool.{or_cases, false_from_ne_true}
use Rattle.std.proofs.lemmas.List.{get_or-set_other, get_or-set_same, length-append}
use Rattle.std.proofs.lemmas.Option.{get_or_from_slice_get}
use Rattle.admit_core.specs.Lists.{is_among}
use Rattle.admit_core.proofs.Plain.{or_false, or_true}
use Rattle.admit_core.proofs.Tests.{Ascends}
use Rattle.linked_demand.specs.declared.rows.RowWish.{RowWish}
use Rattle.linked_demand.specs.Housed.{ranks_of, last_rank, noted}
use Rattle.linked_demand.specs.Rungs.{Rung, housed_in, rank_in, rank_before, is_first, rungs_to}
use Rattle.linked_demand.proofs.Rungs.{among_push, housed_push, housed_same, last_most, noted_none, rises_push}
use Rattle.linked_demand.proofs.RungSteps.{last_pushed}

pub item_there : (xs : List RowWish) (k : ℕ) → k < length xs → (x : RowWish) × (slice_get xs k ≡ Some x)
item_there [] k lt = absurd (omega (arith, lt))
item_there (x ∷ xs) zero lt = (x, refl)
item_there (x ∷ xs) (suc k) lt = item_there xs k (omega (arith, lt))

-- the rank of the item at a place
pub rank_there : (row : List RowWish) (k : ℕ) (x : RowWish) → slice_get row k ≡ Some x → rank_in row k ≡ x.rank
rank_there row k x at = ap (λ (o : Option RowWish). unwrap_or (option_map (λ y. y.rank) o) 0) at

-- the rank that is read at a place
pub rank_read : (row : List RowWish) (k : ℕ) (d : RowWish) → k < length row → (get_or row k d).rank ≡ rank_in row k
rank_read row k d lt =
    let (x, at) = item_there row k lt in
    ap (λ (y : RowWish). y.rank) (get_or_from_slice_get row k x d at)
    ∙ sym (rank_there row k x at)

pub count_push : (xs : List Rung) (x : Rung) → x.housed ≡ true
    → length (housed_in (xs ++ x ∷ [])) ≡ length (housed_in xs) + 1
count_push xs x has =
    ap (λ (ns : List ℕ). length ns) (housed_push xs x has) ∙ length-append (housed_in xs) (x.rank ∷ [])

pub count_same : (xs : List Rung) (x : Rung) → x.housed ≡ false
    → length (housed_in (xs ++ x ∷ [])) ≡ length (housed_in xs)
count_same xs x bare = ap (λ (ns : List ℕ). length ns) (housed_same xs x bare)

abbrev pub rung_at : List RowWish → List Bool → ℕ → Rung
rung_at row flags k = record { rank = rank_in row k; housed = get_or flags k false }

module _ (row : List RowWish) where
  -- a flag that is changed behind the known places
  pub far : (flags : List Bool) (k : ℕ) (b : Bool) (n : ℕ) → n ≤ k
      → rungs_to row (set flags k b) n ≡ rungs_to row flags n
  far flags k b zero le = refl
  far flags k b (suc n) le =
      let rest = far flags k b n (omega (arith, le)) in
      let same : get_or (set flags k b) n false ≡ get_or flags n false =
      get_or-set_other flags k n b false (λ e. omega (arith, e, le)) in
      elim (cases_Bool (is_first row n)) [
        | inl first ↦ rw (first, rest, same) refl
        | inr later ↦ rw later rest
      ]

  -- where there is a rank, somebody is known
  pub some_last : (flags : List Bool) (n : ℕ) → 0 < last_rank (rungs_to row flags n) → 0 < n
  some_last flags zero some = absurd (omega (arith, some))
  some_last flags (suc n) some = omega arith

  pub some_beds : (flags : List Bool) (n : ℕ) → 0 < length (housed_in (rungs_to row flags n)) → 0 < n
  some_beds flags zero some = absurd (omega (arith, some))
  some_beds flags (suc n) some = omega arith

  pub few_rungs : (flags : List Bool) (n : ℕ) → length (rungs_to row flags n) ≤ n
  few_rungs flags zero = omega arith
  few_rungs flags (suc n) =
      let rest = few_rungs flags n in
      elim (cases_Bool (is_first row n)) [
        | inl first ↦ rw first (omega (
          arith,
          rest,
          length-append
              (rungs_to row flags n) (rung_at row flags n ∷ []),
        ))
        | inr later ↦ rw later (omega (arith, rest))
      ]

  -- a known rank is that of a first place
  pub first_place : (flags : List Bool) (n r : ℕ) → is_among r (ranks_of (rungs_to row flags n)) ≡ true
      → (k : ℕ) × (k < n) × (is_first row k ≡ true) × (rank_in row k ≡ r)
  first_place flags zero r t = absurd (false≢true t)
  first_place flags (suc n) r t =
      let xs = rungs_to row flags n in
      elim (cases_Bool (is_first row n)) [
        | inl first ↦
            let own = rung_at row flags n in
            elim (or_cases (is_among r (ranks_of xs)) (nat_eq r own.rank)
            (sym (among_push r xs own) ∙ (rw first at t))) [
              | inl was ↦
                  let (k, lt, here, is) = first_place flags n r was in
                  (k, omega (arith, lt), here, is)
              | inr now ↦ (n, omega arith, first, sym (eqb-true r own.rank now))
            ]
        | inr later ↦
            let (k, lt, here, is) = first_place flags n r (rw later at t) in
            (k, omega (arith, lt), here, is)
      ]

  module _ (rises : IsNonDecreasingBy (λ (x : RowWish). x.rank) row) where
    pub ranks_rise : (j k : ℕ) → j ≤ k → k < length row → rank_in row j ≤ rank_in row k
    ranks_rise j k le lt =
        let (x, _) = item_there row k lt in
        omega (
          arith,
          rises j k x le lt,
          rank_read row j x (omega (arith, le, lt)),
          rank_read row k x lt,
        )

    pub before_rises : (k : ℕ) → k < length row → rank_before row k ≤ rank_in row k
    before_rises zero lt = omega arith
    before_rises (suc k) lt = ranks_rise k (suc k) (omega arith) lt

    -- a place before another
    pub before_least : (j k : ℕ) → j < k → k < length row → rank_in row j ≤ rank_before row k
    before_least j zero less lt = absurd (omega (arith, less))
    before_least j (suc k) less lt = ranks_rise j k (omega (arith, less)) (omega (arith, lt))

    -- the last known rank is that of the last known place
    pub last_is : (flags : List Bool) (n : ℕ) → n ≤ length row
        → last_rank (rungs_to row flags n) ≡ rank_before row n
    last_is flags zero le = refl
    last_is flags (suc n) le =
        let rest = last_is flags n (omega (arith, le)) in
        elim (cases_Bool (is_first row n)) [
          | inl first ↦ rw first (last_pushed (rungs_to row flags n) (rung_at row flags n))
          | inr later ↦
              let high = ltb-false (rank_before row n) (rank_in row n) later in
              let low = before_rises n (omega (arith, le)) in
              let same : rank_before row n ≡ rank_in row n = omega (arith, high, low) in
              rw later (rest ∙ same)
        ]

    pub rungs_rise_to : (flags : List Bool) (n : ℕ) → n ≤ length row
        → Ascends (0 ∷ ranks_of (rungs_to row flags n))
    rungs_rise_to flags zero le = (tt, tt)
    rungs_rise_to flags (suc n) le =
        let rest = rungs_rise_to flags n (omega (arith, le)) in
        let xs = rungs_to row flags n in
        elim (cases_Bool (is_first row n)) [
          | inl first ↦ rw first (rises_push xs (rung_at row flags n) rest
              (omega (arith, last_is flags n (omega (arith, le)), ltb-true (rank_before row n) (rank_in row n) first)))
          | inr later ↦ rw later rest
        ]

    -- the flag of the first place of a rank is set
    pub noted_first : (flags : List Bool) (k n : ℕ) → k < n → n ≤ length row → k < length flags
        → is_first row k ≡ true
        → rungs_to row (set flags k true) n ≡ noted (rank_in row k) (rungs_to row flags n)
    noted_first flags k zero less le lt first = absurd (omega (arith, less))
    noted_first flags k (suc n) less le lt first =
        let r = rank_in row k in
        let xs = rungs_to row flags n in
        let own = rung_at row flags n in
        let set_flag = λ (b : Bool). let y : Rung = record { rank = rank_in row n; housed = b } in y in
        elim (cases_eq n k) [
          | inl here ↦
              let n_first : is_first row n ≡ true = ap (is_first row) here ∙ first in
              let above = ltb-true (rank_before row n) (rank_in row n) n_first in
              let low = last_is flags n (omega (arith, le)) in
              let same : rank_in row n ≡ r = ap (rank_in row) here in
              let none : is_among r (ranks_of xs) ≡ false = false_from_ne_true (is_among r (ranks_of xs)) (λ t.
              omega (
                arith,
                above,
                low,
                same,
                last_most xs r (rungs_rise_to flags n (omega (arith, le))).1 t,
              )) in
              let flag : get_or (set flags k true) n false ≡ (get_or flags n false || nat_eq r (rank_in row n)) =
              ap (λ j. get_or (set flags k true) j false) here
              ∙ get_or-set_same flags k true false lt
              ∙ sym (ap (λ b. get_or flags n false || b) (eq-eqb r (rank_in row n) (sym same))
              ∙ or_true (get_or flags n false)) in
              let rest : rungs_to row (set flags k true) n ≡ noted r xs =
              far flags k true n (omega (arith, here)) ∙ sym (noted_none r xs none) in
              rw n_first ((λ i. rest i ++ (set_flag (flag i) ∷ [])) ∙ sym (noted_push r xs own))
          | inr other ↦
              let before : k < n = omega (arith, less, other) in
              let rest = noted_first flags k n before (omega (arith, le)) lt first in
              let kept : get_or (set flags k true) n false ≡ get_or flags n false =
              get_or-set_other flags k n true false other in
              elim (cases_Bool (is_first row n)) [
                | inl n_first ↦
                    let above = ltb-true (rank_before row n) (rank_in row n) n_first in
                    let low = before_least k n before (omega (arith, le)) in
                    let flag : get_or (set flags k true) n false ≡ (get_or flags n false || nat_eq r (rank_in row n)) =
                    kept ∙ sym (ap (λ b. get_or flags n false || b)
                    (ne_eqb r (rank_in row n) (λ e. omega (arith, e, above, low))) ∙ or_false (get_or flags n false)) in
                    rw n_first ((λ i. rest i ++ (set_flag (flag i) ∷ [])) ∙ sym (noted_push r xs own))
                | inr later ↦ rw later rest
              ]
        ]
      where
        noted_push : (q : ℕ) (ys : List Rung) (y : Rung)
            → noted q (ys ++ y ∷ []) ≡ noted q ys ++ (record y { housed = y.housed || nat_eq q y.rank } ∷ [])
        noted_push q [] y = refl
        noted_push q (z ∷ ys) y =
            ap (λ (zs : List Rung). let u : Rung = record z { housed = z.housed || nat_eq q z.rank } in u ∷ zs)
            (noted_push q ys y)

    -- one more rank has a bed
    pub housed_more : (flags : List Bool) (k n : ℕ) → k < n → k < length flags
        → is_first row k ≡ true → get_or flags k false ≡ false
        → length (housed_in (rungs_to row (set flags k true) n)) ≡ length (housed_in (rungs_to row flags n)) + 1
    housed_more flags k zero less lt first bare = absurd (omega (arith, less))
    housed_more flags k (suc n) less lt first bare =
        let now = set flags k true in
        let xs = rungs_to row flags n in
        let ys = rungs_to row now n in
        elim (cases_eq n k) [
          | inl here ↦
              let n_first : is_first row n ≡ true = ap (is_first row) here ∙ first in
              let has : get_or now n false ≡ true =
              ap (λ j. get_or now j false) here ∙ get_or-set_same flags k true false lt in
              let was : get_or flags n false ≡ false = ap (λ j. get_or flags j false) here ∙ bare in
              let same = ap (λ (zs : List Rung). length (housed_in zs)) (far flags k true n (omega (arith, here))) in
              rw n_first (omega (
                arith,
                count_push ys (rung_at row now n) has,
                count_same xs (rung_at row flags n) was,
                same,
              ))
          | inr other ↦
              let rest = housed_more flags k n (omega (arith, less, other)) lt first bare in
              let kept : get_or now n false ≡ get_or flags n false = get_or-set_other flags k n true false other in
              elim (cases_Bool (is_first row n)) [
                | inl n_first ↦ rw n_first (elim (cases_Bool (get_or flags n false)) [
                  | inl has ↦ omega (
                    arith,
                    rest,
                    count_push ys (rung_at row now n) (kept ∙ has),
                    count_push xs (rung_at row flags n) has,
                  )
                  | inr none ↦ omega (
                    arith,
                    rest,
                    count_same ys (rung_at row now n) (kept ∙ none),
                    count_same xs (rung_at row flags n) none,
                  )
                ])
                | inr later ↦ rw later rest
              ]
        ]
