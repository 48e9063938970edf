-- The final lines are read as the state slot of the next morning.
use Rattle.std.proofs.Common.{ℕ, ◌+◌, ◌<◌, ◌≡◌, List, length, map, Ok, Option, Some, None, nat_eq, zip, get_or, sym}
use Rattle.std.proofs.Common.{◌∙◌, ap, subst, arith}
use Rattle.std.specs.List.{IsDistinct, enumerate_from}
use Rattle.std.specs.Prelude.{Result}
use Rattle.std.proofs.lemmas.List.{ext_get_or, get_or-map, length-map}
use Rattle.std.proofs.lemmas.List.FromFn.{get_or-enumerate_from, length-enumerate_from}
use Rattle.std.proofs.lemmas.Option.{unwrap_or-slice_get}
use Rattle.std.proofs.lemmas.Slice.Zip.{length-zip}
use Rattle.admit_core.specs.Answers.{status_at}
use Rattle.admit_core.specs.declared.dossier.Wish.{Wish}
use Rattle.admit_core.specs.declared.state.Mark.{Mark}
use Rattle.admit_core.specs.declared.state.Status.{Status}
use Rattle.admit_core.specs.declared.state.Status.TheVariants.{Waiting}
use Rattle.admit_core.specs.declared.tables.StateRow.{StateRow}
use Rattle.admit_core.specs.declared.tables.Tables.{Tables}
use Rattle.admit_core.specs.DossierRows.{DossierRows}
use Rattle.admit_core.specs.Relations.{wish_ids}
use Rattle.admit_core.specs.Standing.{dossier_of, wish_of_row}
use Rattle.admit_core.specs.State.{State}
use Rattle.cut_laws.proofs.Dated.{no_mark}
use Rattle.intake.specs.declared.terms.DatedTerms.{DatedTerms}
use Rattle.text_laws.specs.ReadBack.{state_rows}
use Rattle.text_laws.proofs.StateSlots.{final_dated_text_reads_back, final_text_reads_back}
use Rattle.next_morning.specs.Laws.{IsEveningOf}
use Rattle.next_morning.specs.Morning.{morning_tables, state_row, told_rows}
use Rattle.next_morning.specs.ReadLaws.{FinalLinesAreTheState, ReadStatesAreOfTheCut, ReadStatusesAreOfTheEvening}
use Rattle.next_morning.proofs.DatedRows.{dated_statuses, dated_tables_are_of_the_cut, marks_long}
use Rattle.next_morning.proofs.Faultless.{no_wish, row_at}
use Rattle.next_morning.proofs.SameDossier.{told_statuses}

-- the rows by their places are the wishes beside their marks
module _ (t : Tables) (marks : List Mark) (long : length marks ≡ length t.wishes) where
  abbrev s : State
  s = record { dossier = dossier_of t; marks = marks }

  abbrev none : StateRow
  none = record { wish = 0; status = Waiting; since = None }

  abbrev row : ℕ × Wish → StateRow
  row x = record { wish = x.1.id; status = status_at s x.0; since = None }

  same_rows : state_rows s ≡ map state_row (zip t.wishes marks)
  same_rows =
      let ws = map (wish_of_row t) t.wishes in
      let xs = enumerate_from 0 ws in
      let many = length-map xs row ∙ length-enumerate_from 0 ws ∙ length-map t.wishes (wish_of_row t) in
      let other = length-map (zip t.wishes marks) state_row ∙ length-zip t.wishes marks in
      ext_get_or none (map row xs) (map state_row (zip t.wishes marks)) (omega (arith, many, other, long))
      (λ k lt.
      let in_wishes : k < length t.wishes = omega (arith, lt, many) in
      let in_ws : k < length ws = omega (arith, in_wishes, length-map t.wishes (wish_of_row t)) in
      let in_xs : k < length xs = omega (arith, in_ws, length-enumerate_from 0 ws) in
      let w = wish_of_row t no_wish in
      let from_none : 0 + k ≡ k = omega arith in
      get_or-map row xs k (0, w) none in_xs
      ∙ ap row (get_or-enumerate_from 0 ws k (0, w) in_ws)
      ∙ ap (λ j. row (j, get_or ws k w)) from_none
      ∙ (λ i. record {
        wish = (get_or-map (wish_of_row t) t.wishes k no_wish w in_wishes i).id;
        status = (unwrap_or-slice_get marks k no_mark i).status;
        since = None;
      })
      ∙ sym (row_at 0 t marks long k none in_wishes))

same_state : (t : Tables) (evening : State) → IsEveningOf t evening
    → state_rows evening ≡ told_rows t.wishes evening None
same_state t evening of =
    subst (λ (d : DossierRows). state_rows (record { dossier = d; marks = evening.marks })
    ≡ map state_row (zip t.wishes evening.marks))
    (sym of.dossier) (same_rows t evening.marks (marks_long t evening of))

pub final_lines_are_the_state : FinalLinesAreTheState
final_lines_are_the_state a t evening None of valid readable =
    final_text_reads_back evening valid ∙ ap (λ (rows : List StateRow). Ok rows) (same_state t evening of)
final_lines_are_the_state a t evening (Some dated) of valid readable =
    final_dated_text_reads_back evening dated.start dated.terms.before valid readable

-- ---- the statuses that they tell
told_there : (t : Tables) (marks : List Mark) (dated : Option DatedTerms) → length marks ≡ length t.wishes
    → IsDistinct nat_eq (wish_ids t)
    → dossier_of (record t { state = told_rows t.wishes (record { dossier = dossier_of t; marks = marks }) dated })
    ≡ record (dossier_of t) { statuses = map (λ (m : Mark). m.status) marks }
told_there t marks None long apart =
    ap (λ (l : List Status). record (dossier_of t) { statuses = l }) (told_statuses t.wishes marks long apart)
told_there t marks (Some dated) long apart =
    ap (λ (l : List Status). record (dossier_of t) { statuses = l }) (dated_statuses 0 t marks dated long apart)

statuses_told : (t : Tables) (evening : State) (dated : Option DatedTerms) → IsEveningOf t evening
    → dossier_of (record t { state = told_rows t.wishes evening dated })
    ≡ record evening.dossier { statuses = map (λ (m : Mark). m.status) evening.marks }
statuses_told t evening dated of =
    subst (λ (d : DossierRows).
    dossier_of (record t { state = told_rows t.wishes (record { dossier = d; marks = evening.marks }) dated })
    ≡ record d { statuses = map (λ (m : Mark). m.status) evening.marks })
    (sym of.dossier) (told_there t evening.marks dated (marks_long t evening of) of.ids)

same_ok : {A E : Type 0} {x : Result A E} {a b : A} → x ≡ Ok a → x ≡ Ok b → b ≡ a
same_ok one other = cc

pub read_states_are_of_the_cut : ReadStatesAreOfTheCut
read_states_are_of_the_cut a t evening dated rows of valid readable read =
    let m : Tables = morning_tables a t evening dated in
    ap (λ (l : List StateRow). dossier_of (record m { state = l }))
    (same_ok (final_lines_are_the_state a t evening dated of valid readable) read)
    ∙ dated_tables_are_of_the_cut a t evening dated of

pub read_statuses_are_of_the_evening : ReadStatusesAreOfTheEvening
read_statuses_are_of_the_evening t evening dated rows of valid readable read =
    ap (λ (l : List StateRow). dossier_of (record t { state = l }))
    (same_ok (final_lines_are_the_state 0 t evening dated of valid readable) read)
    ∙ statuses_told t evening dated of
