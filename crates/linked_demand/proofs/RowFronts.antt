-- The demands of a row up to a rank are told by its first wishes.
use Rattle.std.proofs.Common.{ℕ, ◌≤◌, ◌<◌, ◌≡◌, Bool, false, ◌&&◌, List, [], ◌∷◌, take, inl, inr, refl, sym, ◌∙◌, ap}
use Rattle.std.proofs.Common.{arith, nat_le, nat_lt, filter, zero, suc, Some}
use Rattle.std.specs.Prelude.{slice_get}
use Rattle.std.proofs.lemmas.Bool.{cases_Bool, lt-leb}
use Rattle.std.proofs.lemmas.Option.{slice_get_cases, slice_get_within}
use Rattle.admit_core.specs.State.{State}
use Rattle.proposals.specs.declared.demands.Demand.{Demand}
use Rattle.linked_demand.specs.declared.rows.RowWish.{RowWish}
use Rattle.linked_demand.specs.Rows.{needs_bed, row_in, IsFront, IsRow, RanksRise}
use Rattle.linked_demand.specs.Demand.{firsts}
use Rattle.linked_demand.proofs.Passing.{passing, passing_behind, passing_front, passing_most}

-- those that rank at most at a number
abbrev upto_of : ℕ → List Demand → List Demand
upto_of upto ys = filter (λ (y : Demand). nat_le y.rank upto) ys

abbrev demand_of : RowWish → Demand
demand_of x = record { rank = x.rank; wish = x.wish }

none_past : (p : ℕ → Bool) (upto last : ℕ) (xs : List RowWish)
    → ((k : ℕ) (x : RowWish) → slice_get xs k ≡ Some x → upto < x.rank) → upto_of upto (firsts p last xs) ≡ []
none_past p upto last [] past = refl
none_past p upto last (x ∷ xs) past =
    let later : (k : ℕ) (y : RowWish) → slice_get xs k ≡ Some y → upto < y.rank = λ k y at. past (suc k) y at in
    let high : nat_le x.rank upto ≡ false = lt-leb x.rank upto (past 0 x refl) in
    elim (cases_Bool (nat_lt last x.rank && p x.wish)) [
      | inl counts ↦ rw (counts, high) (none_past p upto x.rank xs later)
      | inr not_so ↦ rw not_so (none_past p upto last xs later)
    ]

told_before : (p : ℕ → Bool) (upto last : ℕ) (row : List RowWish) (end : ℕ)
    → ((k : ℕ) (x : RowWish) → end ≤ k → slice_get row k ≡ Some x → upto < x.rank)
    → upto_of upto (firsts p last (take end row)) ≡ upto_of upto (firsts p last row)
told_before p upto last [] zero past = refl
told_before p upto last [] (suc end) past = refl
told_before p upto last (x ∷ xs) zero past =
    sym (none_past p upto last (x ∷ xs) (λ k y at. past k y (omega arith) at))
told_before p upto last (x ∷ xs) (suc end) past =
    let later : (k : ℕ) (y : RowWish) → end ≤ k → slice_get xs k ≡ Some y → upto < y.rank =
    λ k y le at. past (suc k) y (omega (arith, le)) at in
    elim (cases_Bool (nat_lt last x.rank && p x.wish)) [
      | inl counts ↦ rw counts (elim (cases_Bool (nat_le x.rank upto)) [
        | inl low ↦ rw low (ap (λ (ys : List Demand). demand_of x ∷ ys) (told_before p upto x.rank xs end later))
        | inr high ↦ rw high (told_before p upto x.rank xs end later)
      ])
      | inr not_so ↦ rw not_so (told_before p upto last xs end later)
    ]

-- in the row of a school, whose ranks rise
pub told_in_front : (p : ℕ → Bool) (upto : ℕ) (s : State) (bars : List ℕ) (h : ℕ) (row front : List RowWish)
    → IsRow s bars h row → IsFront upto row front
    → upto_of upto (firsts p 0 front) ≡ upto_of upto (firsts p 0 row)
told_in_front p upto s bars h row front own is =
    ap (λ (xs : List RowWish). upto_of upto (firsts p 0 xs)) is.front_is
    ∙ told_before p upto 0 row is.end (λ k x le at.
    let (y, first) = item_before row is.end k x le at in
    omega (arith, is.next y first, own.rises is.end k y x le first at))
  where
    -- where there is an item at a place, there is one at each before it
    item_before : (xs : List RowWish) (j k : ℕ) (x : RowWish) → j ≤ k → slice_get xs k ≡ Some x
        → (y : RowWish) × (slice_get xs j ≡ Some y)
    item_before [] j k x le at = absurd (omega (arith, slice_get_within [] k x at))
    item_before (y ∷ xs) zero k x le at = (y, refl)
    item_before (y ∷ xs) (suc j) zero x le at = absurd (omega arith)
    item_before (y ∷ xs) (suc j) (suc k) x le at = item_before xs j k x (omega arith) at

-- those of the first boarders who are in the row are its first ones
pub in_front_of : (s : State) (upto : ℕ) (own front : List RowWish) → RanksRise own → IsFront upto own front
    → IsFront upto (row_in s own) (row_in s front)
in_front_of s upto own front rises is =
    let q = needs_bed s in
    record {
      end = passing q own is.end;
      within = passing_most q own is.end;
      front_is = ap (λ (xs : List RowWish). row_in s xs) is.front_is ∙ passing_front q own is.end;
      next = λ x at.
          let (j, far, found) = passing_behind q own is.end (passing q own is.end) x at (omega arith) in
          elim (slice_get_cases own is.end).1 [
            | inl y ↦ omega (arith, is.next y.0 y.2, rises is.end j y.0 x far y.2 found)
            | inr past ↦ absurd (omega (arith, past.0, far, slice_get_within own j x found))
          ];
    }
