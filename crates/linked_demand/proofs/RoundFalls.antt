-- A round stays right where a bar falls.
use Rattle.std.proofs.Common.{ℕ, ◌≤◌, ◌<◌, ◌≡◌, Bool, true, false, not, ◌&&◌, Option, None, List, length, inl, inr}
use Rattle.std.proofs.Common.{refl, sym, ◌∙◌, ap, arith, get_or, Some, subst}
use Rattle.std.specs.Prelude.{slice_index, slice_set, slice_get}
use Rattle.std.proofs.lemmas.Bool.{cases_eq, eqb-true, le-ltb}
use Rattle.std.proofs.lemmas.List.{length-set}
use Rattle.std.proofs.lemmas.Option.{slice_get-get_or}
use Rattle.admit_core.proofs.Plain.{waits_open, get_set_here, get_set_other}
use Rattle.admit_core.specs.declared.dossier.Wish.{Wish}
use Rattle.admit_core.specs.declared.state.Mark.{Mark}
use Rattle.admit_core.specs.declared.ranking.CallOrder.{CallOrder}
use Rattle.admit_core.specs.Proposals.{is_behind_bar, is_open}
use Rattle.admit_core.specs.State.{State, entries, holds_bed, is_school, is_waiting}
use Rattle.linked_demand.specs.declared.rows.RowWish.{RowWish}
use Rattle.linked_demand.specs.Links.{LinksRow}
use Rattle.linked_demand.specs.Opens.{opens_of}
use Rattle.linked_demand.specs.Rows.{needs_bed, row_in, row_item, AreItems, AreOpen, CutsAt, IsOpenItem, IsRow}
use Rattle.linked_demand.specs.Rounds.{IsRound}
use Rattle.proposals.specs.Demands.{demands_of}
use Rattle.linked_demand.specs.Demand.{is_proposed_at, firsts}
use Rattle.linked_demand.proofs.Naming.{demands_told}
use Rattle.linked_demand.proofs.Passing.{passing, passing_at}
use Rattle.linked_demand.proofs.Falling.{flag_map, flags_fallen, in_front, row_fallen, row_stays}

module _ (links : LinksRow) (bars free : List ℕ) (h to : ℕ) (rows : List (List RowWish))
    (row : List RowWish) (right : IsRound links bars free rows)
    (within : h < length bars) (found : slice_get rows h ≡ Some row) where
  items_own : AreItems links.state links.orders row
  items_own = right.items_are h row found

  pub round_fallen : (le : to ≤ slice_index bars h) (after : LinksRow) (kept : List RowWish)
      → after.state ≡ links.state
      → after.orders ≡ links.orders → CutsAt to row links.opens kept after.opens
      → IsRound after (slice_set bars h to) free (slice_set rows h kept)
  round_fallen le after kept same orders cut =
      let cut_bars : CutsAt to row (opens_of links.state bars) kept after.opens =
      let P = λ (os : List Bool). CutsAt to row os kept after.opens in
      subst P right.opens_are cut in
      let own = right.rows_are h row found in
      let flags = flags_fallen links.state bars h to row kept after.opens own cut_bars within le in
      let new_row = row_fallen links.state bars h to row kept after.opens own cut_bars within le in
      record {
        marks_each = rw same right.marks_each;
        bars_each = rw same (length-set bars h to ∙ right.bars_each);
        free_each = rw same right.free_each;
        rows_each = length-set rows h kept ∙ right.rows_each ∙ sym (length-set bars h to);
        opens_are = rw same flags;
        rows_are = λ g v at. rw same (elim (cases_eq g h) [
          | inl here ↦
              let is : kept ≡ v = get_set_here rows h kept v (rw here at at) in
              let P = λ (u : List RowWish). IsRow links.state (slice_set bars h to) h u in
              rw here (subst P is new_row)
          | inr other ↦ row_stays links.state bars h to g v other
              (right.rows_are g v (get_set_other rows h g kept v other at))
        ]);
        items_are = λ g v at k x there.
            let was : x ≡ row_item links.state links.orders x.wish = elim (cases_eq g h) [
              | inl here ↦
                  let is : kept ≡ v = get_set_here rows h kept v (rw here at at) in
                  let P = λ (u : List RowWish). slice_get u k ≡ Some x in
                  items_own k x (in_front row cut.end k x (rw cut.kept_is at (subst P (sym is) there))).1
              | inr other ↦ right.items_are g v (get_set_other rows h g kept v other at) k x there
            ] in
            let P = λ (s : State). x ≡ row_item s links.orders x.wish in
            let Q = λ (o : List CallOrder). x ≡ row_item after.state o x.wish in
            subst Q (sym orders) (subst P (sym same) was);
      }

-- a wish that ranks at most at the bar of its school is not behind it
pub not_behind : (s : State) (bars : List ℕ) (h : ℕ) (w : Wish) (school : Option ℕ) → is_school school h ≡ true
    → w.board_rank ≤ slice_index bars h → is_behind_bar s bars w school ≡ false
not_behind s bars h w None t low = refl
not_behind s bars h w (Some g) t low =
    let same : g ≡ h = eqb-true g h t in
    let P = λ (n : ℕ). w.board_rank ≤ slice_index bars n in
    ap (λ (b : Bool). not (holds_bed s w.candidate g) && b)
    (le-ltb (slice_index bars g) w.board_rank (subst P (sym same) low))
    ∙ and_false (not (holds_bed s w.candidate g))
  where
    and_false : (b : Bool) → (b && false) ≡ false
    and_false true = refl
    and_false false = refl

-- an item that is read of the first boarders and is in the row is open
pub item_open : (links : LinksRow) (front : List RowWish) → AreOpen links (row_in links.state front) → (i : ℕ)
    → i < length front → (other : RowWish) → needs_bed links.state (get_or front i other) ≡ true
    → IsOpenItem links (get_or front i other)
item_open links front open_are i lt other needs =
    let q = needs_bed links.state in
    let x = get_or front i other in
    open_are (passing q front i) x (passing_at q front i x (slice_get-get_or front i other lt) needs)

-- the wishes of all rows are open
pub rows_open : (links : LinksRow) (bars free : List ℕ) (rows : List (List RowWish))
    → IsRound links bars free rows → (h : ℕ) (row : List RowWish) → slice_get rows h ≡ Some row
    → AreOpen links row
rows_open links bars free rows right h row at k x there =
    let own = right.rows_are h row at in
    let (w, m, waits) = own.each k x there in
    let s = links.state in
    let open_now : is_open s bars w m ≡ true =
    waits_open (is_waiting m) (is_behind_bar s bars w w.school) waits.waits.waits
    (not_behind s bars h w w.school waits.has (omega (arith, waits.rank, own.below k x there))) in
    record {
      waits = (w, m, waits.waits);
      flag =
          ap (λ (os : List Bool). get_or os x.wish false) right.opens_are
          ∙ flag_map (λ (e : Wish × Mark). is_open s bars e.0 e.1) (entries s) x.wish (w, m) waits.waits.here
          ∙ open_now;
      item = right.items_are h row at k x there;
    }

-- what the row tells are the demands of its school
pub demands_right : (links : LinksRow) (bars free : List ℕ) (rows : List (List RowWish))
    → IsRound links bars free rows → (h : ℕ) (row : List RowWish) → slice_get rows h ≡ Some row
    → firsts (is_proposed_at links) 0 row ≡ demands_of links.state links.orders bars h
demands_right links bars free rows right h row found =
    demands_told links bars h row (right.rows_are h row found) right.opens_are
