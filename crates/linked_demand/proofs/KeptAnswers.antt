-- The kept answers of the schools stay right where a bar falls.
use Rattle.std.proofs.Common.{ℕ, ◌≡◌, false, List, [], map, length, inl}
use Rattle.std.proofs.Common.{inr, refl, ◌∙◌, ap, arith, get_or, Option, Some, None, option_map}
use Rattle.std.proofs.Common.{unwrap_or}
use Rattle.std.specs.Prelude.{slice_get, slice_index}
use Rattle.std.specs.List.{range_with_len}
use Rattle.std.proofs.lemmas.List.FromFn.{fill_by_all}
use Rattle.std.proofs.lemmas.Option.{slice_get_cases}
use Rattle.admit_core.specs.declared.dossier.Wish.{Wish}
use Rattle.admit_core.specs.declared.state.Mark.{Mark}
use Rattle.admit_core.specs.State.{entries}
use Rattle.admit_core.specs.Proposals.{is_open, is_proposed}
use Rattle.linked_demand.specs.declared.rows.RowWish.{RowWish}
use Rattle.linked_demand.specs.Links.{LinksRow}
use Rattle.linked_demand.specs.Opens.{opens_of, is_proposed_by}
use Rattle.linked_demand.specs.Rungs.{Rung}
use Rattle.linked_demand.specs.Demand.{is_proposed_at, counted, over_at}
use Rattle.linked_demand.specs.Housed.{AllHoused}
use Rattle.linked_demand.specs.Rounds.{IsRound}
use Rattle.linked_demand.proofs.Demanded.{ranks_told, rises_row}
use Rattle.linked_demand.proofs.Falling.{flag_map}
use Rattle.linked_demand.proofs.HousedRows.{over_is}
use Rattle.linked_demand.proofs.Opens.{proposed_by_bars}

-- by the flags of bars a wish is proposed exactly where it is under the bars
pub proposed_entry : (l : LinksRow) (bars : List ℕ) → l.opens ≡ opens_of l.state bars
    → (j : ℕ) (e : Wish × Mark) → slice_get (entries l.state) j ≡ Some e
    → is_proposed_at l j ≡ is_proposed l.state l.orders bars e.0 e.1
proposed_entry l bars opens_are j e at =
    let flag : get_or l.opens j false ≡ is_open l.state bars e.0 e.1 = rw opens_are
    (flag_map (λ (f : Wish × Mark). is_open l.state bars f.0 f.1) (entries l.state) j e at) in
    ap (λ (o : Option (Wish × Mark)). unwrap_or
    (option_map (λ f. is_proposed_by l.state l.orders l.opens f.0 f.1 (get_or l.opens j false)) o) false) at
    ∙ rw (flag, opens_are) (proposed_by_bars l.state l.orders bars e.0 e.1)

-- what a row answers is the answer of its school
pub row_answers : (links : LinksRow) (bars free : List ℕ) (rows : List (List RowWish))
    → IsRound links bars free rows → (h : ℕ) (row : List RowWish) → slice_get rows h ≡ Some row
    → slice_get (counted (is_proposed_at links) 0 row) (slice_index free h)
    ≡ over_at links.state links.orders bars free h
row_answers links bars free rows right h row at =
    rw (ranks_told links bars h row (right.rows_are h row at) right.opens_are) refl

-- where no wish is left to be looked at, all answers are right
pub answers_all : (links : LinksRow) (bars free : List ℕ) (rows : List (List RowWish))
    → IsRound links bars free rows → (overs : List (Option ℕ)) (housed : List (List Rung))
    → AllHoused links (λ k. false) rows free overs housed
    → overs ≡ map (over_at links.state links.orders bars free) (range_with_len 0 (length links.state.dossier.schools))
answers_all links bars free rows right overs housed all =
    let n = length links.state.dossier.schools in
    fill_by_all (over_at links.state links.orders bars free) overs n None
    (all.answer_each ∙ right.rows_each ∙ right.bars_each) (λ h lt.
    elim (slice_get_cases rows h).1 [
      | inl there ↦
          let row = there.0 in
          let at : slice_get rows h ≡ Some row = there.2 in
          over_is (is_proposed_at links) row (rises_row row (right.rows_are h row at).rises)
          (slice_index free h) (get_or housed h []) (get_or overs h None) (all.each h row at)
          ∙ row_answers links bars free rows right h row at
      | inr past ↦ absurd (omega (arith, past.0, lt, right.rows_each, right.bars_each))
    ])
