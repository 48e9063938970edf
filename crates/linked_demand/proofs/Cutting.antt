-- The wishes of a row that rank past a number are closed one after another.
use Rattle.std.proofs.Common.{ℕ, ◌-◌, ◌≤◌, ◌<◌, ◌≡◌, Bool, true, false, List, [], ◌∷◌, length, inl, inr, refl, sym, ◌∙◌}
use Rattle.std.proofs.Common.{ap}
use Rattle.std.proofs.Common.{arith, zero, suc, get_or, take, drop, Option, Some, subst, unwrap_or}
use Rattle.std.specs.Prelude.{slice_set, slice_get}
use Rattle.std.proofs.lemmas.Bool.{cases_eq}
use Rattle.std.proofs.lemmas.Option.{slice_get_cases, slice_get_within, slice_get_read, unwrap_or-slice_get}
use Rattle.admit_core.specs.declared.dossier.Wish.{Wish}
use Rattle.admit_core.specs.declared.state.Mark.{Mark}
use Rattle.admit_core.specs.State.{State}
use Rattle.linked_demand.specs.declared.rows.RowWish.{RowWish}
use Rattle.linked_demand.specs.Links.{AllOpenWait, LinksRow, WaitsAt}
use Rattle.linked_demand.specs.Rows.{closed, needs_bed, row_in, row_item, AllWait, AreItems, CutsAt, RanksRise}
use Rattle.linked_demand.proofs.Falling.{front_at, in_front}
use Rattle.linked_demand.proofs.Waiting.{closed_wait}
use Rattle.linked_demand.proofs.Passing.{passing, passing_at, passing_from, passing_front}

closed_none : (row : List RowWish) (n : ℕ) (opens : List Bool) → n ≡ length row → closed (drop n row) opens ≡ opens
closed_none [] zero opens e = refl
closed_none [] (suc n) opens e = absurd (omega arith)
closed_none (x ∷ row) zero opens e = absurd (omega arith)
closed_none (x ∷ row) (suc n) opens e = closed_none row n opens (omega arith)

closed_one : (row : List RowWish) (n : ℕ) (x : RowWish) (opens : List Bool) → slice_get row n ≡ Some x
    → closed (drop n row) opens ≡ slice_set (closed (drop (suc n) row) opens) x.wish false
closed_one [] n x opens at = absurd (omega (arith, slice_get_within [] n x at))
closed_one (y ∷ row) zero x opens at = ap (λ (o : Option RowWish). slice_set (closed row opens)
    (unwrap_or o y).wish false) at
closed_one (y ∷ row) (suc n) x opens at = closed_one row n x opens at

-- what holds while the end of the row falls
pub record SoFar (to : ℕ) (row : List RowWish) (start now : LinksRow) (end : ℕ) : Type 0 where
  pub within : end ≤ length row
  pub now_is : now ≡ record start { opens = closed (drop end row) start.opens }
  pub past : (k : ℕ) (x : RowWish) → end ≤ k → slice_get row k ≡ Some x → to < x.rank

pub so_far_start : (to : ℕ) (row : List RowWish) (start : LinksRow) (end : ℕ) → end ≡ length row
    → SoFar to row start start end
so_far_start to row start end is =
    record {
      within = omega arith;
      now_is = ap (λ (os : List Bool). let r : LinksRow = record start { opens = os } in r)
          (sym (closed_none row end start.opens is));
      past = λ k x le at. absurd (omega (arith, slice_get_within row k x at));
    }

pub same_at : (row : List RowWish) (n : ℕ) (x y : RowWish) → slice_get row n ≡ Some x → slice_get row n ≡ Some y → x ≡ y
same_at row n x y a b = ap (λ (o : Option RowWish). unwrap_or o x) (sym a ∙ b)

pub so_far_step : (to : ℕ) (row : List RowWish) (start now new : LinksRow) (end n : ℕ) (x y : RowWish)
    → SoFar to row start now end → end ≡ suc n
    → x ≡ get_or row n x → to < x.rank → y ≡ get_or row n y
    → new ≡ record now { opens = slice_set now.opens y.wish false } → SoFar to row start new n
so_far_step to row start now new end n x y far is read past read_again new_is =
    let at = slice_get_read row (length row) n x refl (omega (arith, far.within)) read in
    let at_again = slice_get_read row (length row) n y refl (omega (arith, far.within)) read_again in
    let old : now.opens ≡ closed (drop (suc n) row) start.opens = ap (λ (r : LinksRow). r.opens) far.now_is
    ∙ ap (λ e. closed (drop e row) start.opens) is in
    let opens : slice_set now.opens y.wish false ≡ closed (drop n row) start.opens = rw old
    (sym (closed_one row n y start.opens at_again)) in
    record {
      within = omega (arith, far.within);
      now_is = new_is ∙ ap (λ (os : List Bool). let r : LinksRow = record now { opens = os } in r) opens
          ∙ ap (λ (r : LinksRow). let q : LinksRow = record r { opens = closed (drop n row) start.opens } in q)
          far.now_is;
      past = λ k z le found. elim (cases_eq k n) [
        | inl here ↦ rw (← same_at row n x z at (rw here at found)) past
        | inr other ↦ far.past k z (omega (arith, other)) found
      ];
    }

pub waits_still : (to : ℕ) (row : List RowWish) (start now : LinksRow) (end n : ℕ) (y : RowWish)
    → SoFar to row start now end → end ≡ suc n
    → y ≡ get_or row n y → AllWait start.state row → (w : Wish) × (m : Mark) × WaitsAt now.state y.wish w m
waits_still to row start now end n y far is read all =
    let (w, m, at) = all n y (slice_get_read row (length row) n y refl (omega (arith, far.within)) read) in
    let P = λ (r : LinksRow). WaitsAt r.state y.wish w m in
    (w, m, subst P (sym far.now_is) at)

pub item_still : (to : ℕ) (row : List RowWish) (start now : LinksRow) (end n : ℕ) (y : RowWish)
    → SoFar to row start now end → end ≡ suc n
    → y ≡ get_or row n y → AreItems start.state start.orders row → y ≡ row_item now.state now.orders y.wish
item_still to row start now end n y far is read all =
    let P = λ (r : LinksRow). y ≡ row_item r.state r.orders y.wish in
    subst P (sym far.now_is) (all n y (slice_get_read row (length row) n y refl (omega (arith, far.within)) read))

-- where the end of the first boarders falls: an item that is in the row, and one that is not
module _ (s : State) (front : List RowWish) (n : ℕ) (x : RowWish) (at : slice_get front n ≡ Some x) where
  abbrev place : ℕ
  place = passing (needs_bed s) front n

  pub in_row : needs_bed s x ≡ true → slice_get (row_in s front) place ≡ Some x
  in_row pass = passing_at (needs_bed s) front n x at pass

  pub read_in_row : needs_bed s x ≡ true → x ≡ get_or (row_in s front) place x
  read_in_row pass =
      sym (sym (unwrap_or-slice_get (row_in s front) place x)
      ∙ ap (λ (o : Option RowWish). unwrap_or o x) (in_row pass))

pub so_far_cuts : (to : ℕ) (row : List RowWish) (start now : LinksRow) (end : ℕ) (kept : List RowWish)
    → SoFar to row start now end → kept ≡ take end row
    → ((x : RowWish) → 0 < end → slice_get row (end - 1) ≡ Some x → x.rank ≤ to)
    → CutsAt to row start.opens kept now.opens
so_far_cuts to row start now end kept far is last =
    record {
      end = end;
      within = far.within;
      kept_is = is;
      after_is = ap (λ (r : LinksRow). r.opens) far.now_is;
      past = far.past;
      last = last;
    }

-- the last one of the row ranks at most where the last one that is still a first boarder does
pub last_in_row : (s : State) (to : ℕ) (front : List RowWish) (end : ℕ) → RanksRise front
    → ((y : RowWish) → 0 < end → slice_get front (end - 1) ≡ Some y → y.rank ≤ to) → end ≤ length front
    → (x : RowWish) → 0 < passing (needs_bed s) front end
    → slice_get (row_in s front) (passing (needs_bed s) front end - 1) ≡ Some x → x.rank ≤ to
last_in_row s to front end rises last within x some at =
    let q = needs_bed s in
    let P = λ (ys : List RowWish). slice_get ys (passing q front end - 1) ≡ Some x in
    let before : slice_get (row_in s (take end front)) (passing q front end - 1) ≡ Some x =
    subst P (sym (passing_front q front end))
    (front_at (row_in s front) (passing q front end) (passing q front end - 1) x (omega (arith, some)) at) in
    let (j, le, found) = passing_from q (take end front) (passing q front end - 1) x before in
    let (lt, there) = in_front front end j x found in
    elim (slice_get_cases front (end - 1)).1 [
      | inl y ↦ omega (
        arith,
        last y.0 (omega (arith, lt)) y.2,
        rises j (end - 1) x y.0 (omega (arith, lt)) there y.2,
      )
      | inr past ↦ absurd (omega (arith, past.0, within, lt))
    ]

-- so the row is cut
pub cut_there : (to : ℕ) (front : List RowWish) (start now : LinksRow) (end : ℕ) → RanksRise front
    → SoFar to (row_in start.state front) start now (passing (needs_bed start.state) front end)
    → end ≤ length front → ((y : RowWish) → 0 < end → slice_get front (end - 1) ≡ Some y → y.rank ≤ to)
    → CutsAt to (row_in start.state front) start.opens (row_in start.state (take end front)) now.opens
cut_there to front start now end rises far within last =
    so_far_cuts to (row_in start.state front) start now (passing (needs_bed start.state) front end)
    (row_in start.state (take end front)) far (passing_front (needs_bed start.state) front end)
    (last_in_row start.state to front end rises last within)

pub same_links : (to : ℕ) (row : List RowWish) (start now : LinksRow) (end : ℕ) → SoFar to row start now end
    → now ≡ record start { opens = now.opens }
same_links to row start now end far =
    far.now_is
    ∙ ap (λ (os : List Bool). let r : LinksRow = record start { opens = os } in r)
    (sym (ap (λ (r : LinksRow). r.opens) far.now_is))

-- what is open waits all the while
pub open_still : (to : ℕ) (row : List RowWish) (start now : LinksRow) (end : ℕ) → SoFar to row start now end
    → AllOpenWait start.state start.opens → AllOpenWait now.state now.opens
open_still to row start now end far waits =
    let P = λ (r : LinksRow). AllOpenWait r.state r.opens in
    subst P (sym far.now_is) (closed_all (drop end row))
  where
    closed_all : (xs : List RowWish) → AllOpenWait start.state (closed xs start.opens)
    closed_all [] = waits
    closed_all (x ∷ xs) = closed_wait start.state (closed xs start.opens) x.wish (closed_all xs)
