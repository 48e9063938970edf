-- The laws of next mornings where offers have deadlines.
use Rattle.std.proofs.Common.{ℕ, ◌-◌, ◌≡◌, List, [], ◌∷◌, length, map, zip, Option, Some, None, option_map, refl, sym}
use Rattle.std.proofs.Common.{◌∙◌, ap, subst, arith}
use Rattle.std.specs.Prelude.{ℤ, pos, ◌+ℤ◌, ◌-ℤ◌}
use Rattle.std.specs.List.{range_with_len}
use Rattle.std.proofs.lemmas.Int.{ints}
use Rattle.std.proofs.lemmas.List.{length-map}
use Rattle.std.proofs.lemmas.List.FromFn.{length-map-range_with_len}
use Rattle.std.proofs.lemmas.Slice.Zip.{length-zip}
use Rattle.admit_core.specs.declared.ranking.CallOrder.{CallOrder}
use Rattle.admit_core.specs.declared.records.DayRecord.{DayRecord}
use Rattle.admit_core.specs.declared.records.Lapse.{Lapse}
use Rattle.admit_core.specs.declared.records.Terms.{Terms}
use Rattle.admit_core.specs.declared.state.Mark.{Mark}
use Rattle.admit_core.specs.declared.tables.Tables.{Tables}
use Rattle.admit_core.specs.Days.{Days, answers_of, ceilings_of, first_evening}
use Rattle.admit_core.specs.DossierRows.{DossierRows}
use Rattle.admit_core.specs.Lapses.{AreTermsFor}
use Rattle.admit_core.specs.State.{State}
use Rattle.cut_laws.specs.Alike.{undated}
use Rattle.cut_laws.specs.Cut.{StandAlike, cut_at, earlier, terms_at}
use Rattle.cut_laws.proofs.Cut.{alike_states_go_on, first_dates, standing}
use Rattle.cut_laws.proofs.CutRows.{statuses_taken_in}
use Rattle.cut_laws.proofs.Rest.{cut_days_are_the_rest}
use Rattle.intake.specs.Dated.{offer_since, terms_from}
use Rattle.request.specs.declared.request.Deadlines.{Deadlines}
use Rattle.intake.specs.declared.terms.DatedTerms.{DatedTerms}
use Rattle.morning_laws.specs.ReadOffers.{read_terms}
use Rattle.morning_laws.proofs.ReadDates.{read_offers_stand_alike}
use Rattle.text_laws.specs.ReadBack.{HaveReadDates, since_when}
use Rattle.next_morning.specs.DatedLaws.{AreTheRestBy, DatedOffersStandAlike, DatedRunsAreTheRest, next_terms}
use Rattle.next_morning.specs.Laws.{IsEveningOf}
use Rattle.next_morning.proofs.DatedRows.{dated_tables_are_of_the_cut, dates_are_of_the_evening}

-- ---- days that are as many days earlier and later
plus_none : (ds : List (Option ℤ)) → map (option_map (λ day. day +ℤ pos 0)) ds ≡ ds
plus_none [] = refl
plus_none (None ∷ ds) = ap (λ (l : List (Option ℤ)). None ∷ l) (plus_none ds)
plus_none (Some d ∷ ds) =
    let same : d +ℤ pos 0 ≡ d = omega (arith, ints) in
    (λ i. Some (same i) ∷ plus_none ds i)

-- days that are the same when each is moved are the same
back_again : (a : ℕ) (ds : List (Option ℤ))
    → map (option_map (λ day. day -ℤ pos a)) (map (option_map (λ day. day +ℤ pos a)) ds) ≡ ds
back_again a [] = refl
back_again a (None ∷ ds) = ap (λ (l : List (Option ℤ)). None ∷ l) (back_again a ds)
back_again a (Some d ∷ ds) =
    let same : d +ℤ pos a -ℤ pos a ≡ d = omega (arith, ints) in
    (λ i. Some (same i) ∷ back_again a ds i)

same_days : (a : ℕ) (ds es : List (Option ℤ))
    → map (option_map (λ day. day +ℤ pos a)) ds ≡ map (option_map (λ day. day +ℤ pos a)) es → ds ≡ es
same_days a ds es e =
    sym (back_again a ds) ∙ ap (map (option_map (λ day. day -ℤ pos a))) e ∙ back_again a es

as_they_were : (ls : List Lapse) → map (λ (l : Lapse). record l { offered = l.offered -ℤ pos 0 }) ls ≡ ls
as_they_were [] = refl
as_they_were (l ∷ ls) =
    let same : l.offered -ℤ pos 0 ≡ l.offered = omega (arith, ints) in
    (λ i. record l { offered = same i } ∷ as_they_were ls i)

no_days_earlier : (days : List DayRecord) → map (earlier 0) days ≡ days
no_days_earlier [] = refl
no_days_earlier (day ∷ days) =
    let same : day.day - 0 ≡ day.day = omega arith in
    (λ i. record day { day = same i; lapsed = as_they_were day.lapsed i } ∷ no_days_earlier days i)

-- ---- under the terms that are read
module _ (s : State) (start : ℤ) (before : List ℤ) (a term : ℕ) (long : length s.marks ≡ length s.dossier.wishes)
    (fit : length before ≡ length s.dossier.wishes) (dates : HaveReadDates s start before) where
  abbrev given : Terms
  given = record { term = term; before = before }

  abbrev read : Terms
  read = read_terms s start before a term

  abbrev c : DossierRows
  c = cut_at a s

  stand_read : StandAlike a (Some given) s (Some read) (first_evening c)
  stand_read = read_offers_stand_alike s start before a term long fit dates

  stand_cut : StandAlike a (Some given) s (terms_at a (Some given) s) (first_evening c)
  stand_cut =
      standing a (Some given) (terms_at a (Some given) s) s (first_evening c) (statuses_taken_in a s)
      (first_dates a (Some given) s fit long)

  stand_here : StandAlike 0 (Some read) (first_evening c) (terms_at a (Some given) s) (first_evening c)
  stand_here = (
    sym stand_read.0 ∙ stand_cut.0,
    same_days a _ _ (sym stand_read.1 ∙ stand_cut.1) ∙ sym (plus_none _),
  )

  read_fit : AreTermsFor c (Some read)
  read_fit =
      let statuses = map (λ (m : Mark). m.status) s.marks in
      let sinces = map (since_when s start before) (range_with_len 0 (length s.dossier.wishes)) in
      let one = length-map s.marks (λ (m : Mark). m.status) in
      let other = length-map-range_with_len (since_when s start before) 0 (length s.dossier.wishes) in
      let both = length-zip statuses sinces in
      length-map (zip statuses sinces) (offer_since (start +ℤ pos a)) ∙ omega (arith, one, other, both, long)

  read_days_are_the_rest : (orders : List CallOrder) (days : List DayRecord) (other : State)
      → Days (Some read) orders 1 (first_evening c) days other
      → AreTheRestBy (Some given) (Some read) orders a s days other
  read_days_are_the_rest orders days other run =
      let cut = terms_at a (Some given) s in
      let first = first_dates a (Some given) s fit long in
      let there = alike_states_go_on 0 (Some read) cut orders (first_evening c) (first_evening c) days other refl
      stand_here (first.1.others ∙ long) read_fit (first.1.other_terms ∙ fit)
      (record {
        ceilings = λ day past. let same : day ≡ day - 0 = omega arith in ap (ceilings_of c) same;
        answers = λ day past. let same : day ≡ day - 0 = omega arith in ap (λ n. undated (answers_of c n)) same;
      }) run in
      let rest = cut_days_are_the_rest (Some given) orders a s days there.0 fit long
      (subst (λ (ds : List DayRecord). Days cut orders 1 (first_evening c) ds there.0) (no_days_earlier days)
      there.3) in (
        rest.0,
        rest.1 ∙ sym there.1,
        (
          rest.2.0 ∙ sym there.2.0,
          rest.2.1 ∙ ap (map (option_map (λ day. day +ℤ pos a))) (sym (there.2.1 ∙ plus_none _)),
        ),
        rest.3,
      )

-- the terms and the dossier of the tables are those of the final lines
next_terms_are : (a : ℕ) (t : Tables) (evening : State) (dated : DatedTerms) → IsEveningOf t evening
    → next_terms a t evening dated ≡ read_terms evening dated.start dated.terms.before a dated.terms.term
next_terms_are a t evening dated of =
    let deadlines : Deadlines = record { start = dated.start +ℤ pos a; term = dated.terms.term } in
    (λ i. terms_from (dated_tables_are_of_the_cut a t evening (Some dated) of i)
    (dates_are_of_the_evening a t evening dated of i) deadlines)

pub dated_offers_stand_alike : DatedOffersStandAlike
dated_offers_stand_alike a t evening dated of fit dates =
    subst (λ (x : Terms × DossierRows). StandAlike a (Some dated.terms) evening (Some x.0) (first_evening x.1))
    (λ i. (
      sym (next_terms_are a t evening dated of) i,
      sym (dated_tables_are_of_the_cut a t evening (Some dated) of) i,
    ))
    (read_offers_stand_alike evening dated.start dated.terms.before a dated.terms.term of.marks fit dates)

pub dated_runs_are_the_rest : DatedRunsAreTheRest
dated_runs_are_the_rest a t evening dated orders days other of fit dates run =
    let terms = next_terms_are a t evening dated of in
    let dossier = dated_tables_are_of_the_cut a t evening (Some dated) of in
    subst (λ (x : Terms). AreTheRestBy (Some dated.terms) (Some x) orders a evening days other) (sym terms)
    (read_days_are_the_rest evening dated.start dated.terms.before a dated.terms.term of.marks fit dates orders days
    other (subst (λ (x : Terms × DossierRows). Days (Some x.0) orders 1 (first_evening x.1) days other)
    (λ i. (terms i, dossier i)) run))
