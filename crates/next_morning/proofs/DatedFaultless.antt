-- A check accepts the tables with dates as it does those without.
use Rattle.std.proofs.Common.{ℕ, ◌+◌, ◌<◌, ◌≡◌, true, false, ◌&&◌, List, All, AllPairs, get_or, length, map, nat_eq}
use Rattle.std.proofs.Common.{Option, Some, None, refl, sym, ◌∙◌, ap, subst, arith}
use Rattle.std.specs.List.{IsDistinct, enumerate_from}
use Rattle.std.proofs.lemmas.List.{ext_get_or, get_or-map, length-map}
use Rattle.std.proofs.lemmas.List.FromFn.{get_or-enumerate_from, length-enumerate_from}
use Rattle.std.proofs.lemmas.Option.{unwrap_or-slice_get}
use Rattle.std.proofs.lemmas.Simd.{map-map}
use Rattle.admit_core.proofs.NoFaults.{PassesAll, all_known, and_then, differ, differ_when, no_tests}
use Rattle.admit_core.specs.Answers.{status_at}
use Rattle.admit_core.specs.declared.dossier.Wish.{Wish}
use Rattle.admit_core.specs.declared.refusal.Reason.TheVariants.{Repeat, TwoAccepted, Unknown}
use Rattle.admit_core.specs.declared.state.Mark.{Mark}
use Rattle.admit_core.specs.declared.state.Status.TheVariants.{Waiting}
use Rattle.admit_core.specs.declared.tables.StateRow.{StateRow}
use Rattle.admit_core.specs.declared.tables.Tables.{Tables}
use Rattle.admit_core.specs.DossierRows.{DossierRows}
use Rattle.admit_core.specs.Lists.{is_among}
use Rattle.admit_core.specs.OwnWishes.{IsOneAccepted}
use Rattle.admit_core.specs.Ranges.{AreTables, IsStateRow}
use Rattle.admit_core.specs.Relations.{candidate_with, first_fault, is_accepted, same_candidate, state_tests, wish_ids}
use Rattle.admit_core.specs.Standing.{dossier_of, wish_of_row}
use Rattle.admit_core.specs.State.{State}
use Rattle.admit_core.specs.Validity.{IsValid}
use Rattle.cut_laws.proofs.Dated.{no_mark}
use Rattle.dossier_check.proofs.NoFault.{no_fault}
use Rattle.dossier_check.proofs.RowFacts.{wish_ids_apart}
use Rattle.dossier_check.proofs.Valid.{is_valid}
use Rattle.intake.specs.declared.terms.DatedTerms.{DatedTerms}
use Rattle.text_laws.specs.ReadBack.{dated_rows, since_when}
use Rattle.next_morning.specs.DatedLaws.{DatedTablesAreAccepted}
use Rattle.next_morning.specs.Laws.{IsAccepted, IsEveningOf}
use Rattle.next_morning.specs.Morning.{morning_tables, tables_after}
use Rattle.next_morning.proofs.DatedRows.{marks_long}
use Rattle.next_morning.proofs.Faultless.{apart_by, as_many, no_fault_with, no_wish, one_accepted, row_at, state_ids}
use Rattle.next_morning.proofs.Faultless.{state_known}
use Rattle.next_morning.proofs.Mornings.{tables_are_accepted, tables_are_valid}

abbrev undate : StateRow → StateRow
undate row = record row { since = None }

module _ (a : ℕ) (t : Tables) (marks : List Mark) (long : length marks ≡ length t.wishes) (dated : DatedTerms) where
  abbrev s : State
  s = record { dossier = dossier_of t; marks = marks }

  abbrev n : Tables
  n = tables_after a t s

  abbrev row : ℕ × Wish → StateRow
  row x = record { wish = x.1.id; status = status_at s x.0; since = since_when s dated.start dated.terms.before x.0 }

  abbrev rows : List StateRow
  rows = dated_rows s dated.start dated.terms.before

  many : length rows ≡ length t.wishes
  many =
      length-map (enumerate_from 0 (map (wish_of_row t) t.wishes)) row
      ∙ length-enumerate_from 0 (map (wish_of_row t) t.wishes) ∙ length-map t.wishes (wish_of_row t)

  row_is : (k : ℕ) (d e : StateRow) → k < length rows → undate (get_or rows k d) ≡ get_or n.state k e
  row_is k d e lt =
      let w : Wish = wish_of_row t no_wish in
      let there : k < length t.wishes = omega (arith, lt, many) in
      let at : 0 + k ≡ k = omega arith in
      let placed = length-enumerate_from 0 (map (wish_of_row t) t.wishes) in
      let wishes = length-map t.wishes (wish_of_row t) in
      ap undate (get_or-map row (enumerate_from 0 (map (wish_of_row t) t.wishes)) k (0, w) d
      (omega (arith, there, placed, wishes))
      ∙ ap row (get_or-enumerate_from 0 (map (wish_of_row t) t.wishes) k (0, w) (omega (arith, there, wishes))
      ∙ (λ i. (at i, get_or-map (wish_of_row t) t.wishes k no_wish w there i))))
      ∙ (λ i. record {
        wish = (get_or t.wishes k no_wish).id;
        status = (unwrap_or-slice_get marks k no_mark i).status;
        since = None;
      })
      ∙ sym (row_at a t marks long k e there)

  alike : map undate rows ≡ n.state
  alike =
      let d : StateRow = record { wish = 0; status = Waiting; since = None } in
      ext_get_or d (map undate rows) n.state
      (length-map rows undate ∙ many ∙ sym (as_many a t marks long))
      (λ i lt.
      let there : i < length rows = omega (arith, lt, length-map rows undate) in
      get_or-map undate rows i d d there ∙ row_is i d d there)

  in_range : AreTables n → AreTables (record n { state = rows })
  in_range are = record {
    groups = are.groups;
    programmes = are.programmes;
    schools = are.schools;
    rankings = are.rankings;
    boarding = are.boarding;
    wishes = are.wishes;
    state = record {
      size = omega (arith, many, are.state.size, as_many a t marks long);
      each = λ k d lt.
          let this = subst IsStateRow (sym (row_is k d d lt))
          (are.state.each k d (omega (arith, lt, many, as_many a t marks long))) in
          record { wish = this.wish };
    };
    ceilings = are.ceilings;
    answers = are.answers;
  }

  module _ (none : first_fault t ≡ None) where
    known : All (λ (r : StateRow). is_among r.wish (wish_ids t) ≡ true) rows
    known k d lt =
        subst (λ (r : StateRow). is_among r.wish (wish_ids t) ≡ true) (sym (row_is k d d lt))
        (state_known a t marks long (no_fault t none) k d (omega (arith, lt, many, as_many a t marks long)))

    one : IsOneAccepted s → AllPairs (λ (r q : StateRow). is_accepted q.status ≡ true
        → (is_accepted r.status && same_candidate (candidate_with t q.wish) (candidate_with t r.wish)) ≡ false) rows
    one accepted i j d below lt =
        subst (λ (x : StateRow × StateRow). is_accepted x.1.status ≡ true
        → (is_accepted x.0.status && same_candidate (candidate_with t x.1.wish) (candidate_with t x.0.wish)) ≡ false)
        (λ k. (sym (row_is i d d (omega (arith, below, lt))) k, sym (row_is j d d lt) k))
        (one_accepted a t marks long (no_fault t none) accepted i j d below
        (omega (arith, lt, many, as_many a t marks long)))

    ids : map (λ (r : StateRow). r.wish) rows ≡ wish_ids t
    ids =
        sym (map-map (λ (r : StateRow). r.wish) undate rows)
        ∙ ap (map (λ (r : StateRow). r.wish)) alike ∙ state_ids t.wishes marks long

    passes : IsOneAccepted s → PassesAll (state_tests n) rows
    passes accepted =
        and_then (differ (λ (q r : StateRow). nat_eq q.wish r.wish) Repeat rows
        (apart_by (λ (r : StateRow). r.wish) rows
        (subst (IsDistinct nat_eq) (sym ids) (wish_ids_apart t (no_fault t none)))))
        (and_then (all_known (λ (r : StateRow). is_among r.wish (wish_ids n)) (Unknown 1) rows known)
        (and_then (differ_when (λ (q : StateRow). is_accepted q.status)
        (λ (q r : StateRow).
        is_accepted r.status && same_candidate (candidate_with t q.wish) (candidate_with t r.wish))
        TwoAccepted rows (one accepted))
        no_tests))

    no_fault_dated : IsOneAccepted s → IsValid (dossier_of n) → first_fault (morning_tables a t s (Some dated)) ≡ None
    no_fault_dated accepted valid =
        no_fault_with a t marks long (no_fault t none) valid rows (passes accepted)

pub dated_tables_are_accepted : DatedTablesAreAccepted
dated_tables_are_accepted a t evening None of ranges none accepted =
    tables_are_accepted a t evening of ranges none accepted
dated_tables_are_accepted a t evening (Some dated) of ranges none accepted =
    let there : State = record { dossier = dossier_of t; marks = evening.marks } in
    let long = marks_long t evening of in
    let one : IsOneAccepted there =
    subst (λ (d : DossierRows). IsOneAccepted (record { dossier = d; marks = evening.marks })) of.dossier accepted in
    let of_there : IsEveningOf t there =
    record { dossier = refl; marks = long ∙ sym (length-map t.wishes (wish_of_row t)); ids = of.ids } in
    let valid = tables_are_valid a t there of_there (is_valid t ranges none) one in
    subst (λ (d : DossierRows).
    AreTables (morning_tables a t (record { dossier = d; marks = evening.marks }) (Some dated))
    × (first_fault (morning_tables a t (record { dossier = d; marks = evening.marks }) (Some dated)) ≡ None))
    (sym of.dossier) (
      in_range a t evening.marks long dated (tables_are_accepted a t there of_there ranges none one).0,
      no_fault_dated a t evening.marks long dated none one valid,
    )

-- the same for a state that keeps a mark for each wish, and one accepted wish of each candidate at most
module _ (a : ℕ) (t : Tables) (evening : State) (same : evening.dossier ≡ dossier_of t)
    (long : length evening.marks ≡ length evening.dossier.wishes) (one : IsOneAccepted evening) where
  pub next_is_accepted : (dated : Option DatedTerms) → IsAccepted t → IsAccepted (morning_tables a t evening dated)
  next_is_accepted dated is =
      let of : IsEveningOf t evening =
      record { dossier = same; marks = long; ids = wish_ids_apart t (no_fault t is.faultless) } in
      let both = dated_tables_are_accepted a t evening dated of is.ranges is.faultless one in
      record { ranges = both.0; faultless = both.1 }
