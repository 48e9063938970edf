-- The dates that come of terms can be written.
use Rattle.std.proofs.Common.{◌≡◌, ◌∙◌, ◌∷◌, [], ℕ, List, Option, None, Some, IfSome, ap, arith, get_or, inl, inr}
use Rattle.std.proofs.Common.{length, map, refl, sym}
use Rattle.std.specs.Prelude.{ℤ, pos, ◌+ℤ◌, ◌-ℤ◌, ◌&&◌, nat_le, replicate, zip}
use Rattle.std.proofs.lemmas.Bool.{and_parts, cases_Bool, leb-true}
use Rattle.std.proofs.lemmas.Int.{ints}
use Rattle.std.proofs.lemmas.List.{length-map}
use Rattle.std.proofs.lemmas.List.Elements.{All-map}
use Rattle.std.proofs.lemmas.Slice.Zip.{firsts-zip}
use Rattle.admit_core.specs.DossierRows.{DossierRows}
use Rattle.admit_core.specs.Lapses.{AreTermsFor, is_offered}
use Rattle.admit_core.specs.Validity.{IsValid}
use Rattle.admit_core.specs.declared.records.Terms.{Terms}
use Rattle.admit_core.specs.declared.state.Status.{Status}
use Rattle.admit_core.specs.declared.tables.Since.{Since}
use Rattle.calendar.proofs.DateLaws.{number-range}
use Rattle.calendar.specs.Dates.{IsRead, civil, days_in_month, is_date}
use Rattle.request.specs.Request.{IsDeadlines, IsStart}
use Rattle.request.specs.declared.request.Deadlines.{Deadlines}
use Rattle.intake.specs.Dated.{AreDatedFor, date_number, dated_from, day_before, offer_since, since_day, terms_from}
use Rattle.intake.specs.Dated.{terms_in}
use Rattle.intake.specs.declared.terms.DatedTerms.{DatedTerms}

-- the number of the date of a day, where day 1 has the number start
abbrev on : ℤ → ℤ → ℤ
on start day = start +ℤ day -ℤ pos 1

-- a date that is read
civil_read : (year month day : ℕ) → IfSome (civil year month day) IsRead
civil_read year month day =
    elim (cases_Bool (nat_le 1900 year && nat_le year 2299 && is_date year month day)) [
      | inl is ↦
          let parts = and_parts _ _ is in
          let years = and_parts _ _ parts.0 in
          let days = and_parts _ _ parts.1 in
          let from_first = and_parts _ _ days.0 in
          let months = and_parts _ _ from_first.0 in
          rw is
          (number-range year month day (leb-true 1900 year years.0) (leb-true year 2299 years.1)
          (leb-true 1 month months.0) (leb-true month 12 months.1) (leb-true 1 day from_first.1)
          (leb-true day (days_in_month year month) days.1)).1
      | inr none ↦ rw none tt
    ]

on_start : (start : ℤ) → IsStart start → IsRead (on start (pos 0))
on_start start is =
    let low = is.after_first in
    let high = is.is_read in
    (omega (arith, ints), omega (arith, ints))

on_date : (start number : ℤ) → IsRead number → IsRead (on start (number -ℤ start +ℤ pos 1))
on_date start number read =
    let low = read.0 in
    let high = read.1 in
    (omega (arith, ints), omega (arith, ints))

on_day : (start : ℤ) (date : Option ℤ) → IsStart start → IfSome date IsRead → IsRead (on start (day_before start date))
on_day start None is read = on_start start is
on_day start (Some number) is read = on_date start number read

on_since : (start : ℤ) (since : Option Since) → IsStart start → IsRead (on start (since_day start since))
on_since start None is = on_start start is
on_since start (Some since) is = on_day start (date_number since) is (civil_read since.year since.month since.day)

on_offer : (start : ℤ) (offer : Status × Option Since) → IsStart start → IsRead (on start (offer_since start offer))
on_offer start (status, since) is =
    elim (cases_Bool (is_offered status)) [
      | inl offered ↦ rw offered (on_since start since is)
      | inr other ↦ rw other (on_start start is)
    ]

-- the days of wishes without a date
no_day : (start : ℤ) (status : Status) → offer_since start (status, None) ≡ pos 0
no_day start status =
    elim (cases_Bool (is_offered status)) [
      | inl offered ↦ rw offered refl
      | inr other ↦ rw other refl
    ]

days_of_none : (start : ℤ) (statuses : List Status)
    → map (offer_since start) (zip statuses (replicate (length statuses) None)) ≡ replicate (length statuses) (pos 0)
days_of_none start [] = refl
days_of_none start (status ∷ statuses) =
    ap (λ day. day ∷ map (offer_since start) (zip statuses (replicate (length statuses) None))) (no_day start status)
    ∙ ap (λ days. pos 0 ∷ days) (days_of_none start statuses)

pub undated_days : (start : ℤ) (statuses : List Status) (dates : List (Option Since)) → length dates ≡ length statuses
    → dates ≡ replicate (length dates) None
    → replicate (length statuses) (pos 0) ≡ map (offer_since start) (zip statuses dates)
undated_days start statuses dates each none =
    sym (ap (λ ds. map (offer_since start) (zip statuses ds)) (none ∙ ap (λ n. replicate n None) each)
    ∙ days_of_none start statuses)

-- one day for each wish
pub one_day_each : (d : DossierRows) (dates : List (Option Since)) (deadlines : Deadlines) → IsValid d
    → length dates ≡ length d.wishes → length (terms_from d dates deadlines).before ≡ length d.wishes
one_day_each d dates deadlines valid each =
    length-map (zip d.statuses dates) (offer_since deadlines.start)
    ∙ sym (length-map (zip d.statuses dates) (λ x. x.0))
    ∙ ap length (firsts-zip d.statuses dates (each ∙ sym valid.one_status_each))
    ∙ valid.one_status_each

-- the terms of offers, where wishes have these dates
dated_for : (d : DossierRows) (dates : List (Option Since)) (deadlines : Deadlines)
    → length (terms_from d dates deadlines).before ≡ length d.wishes → IsDeadlines deadlines
    → AreDatedFor d (dated_from d dates deadlines)
dated_for d dates deadlines each is = record {
  start = is.start;
  term = is.term;
  one_each = each;
  before =
      All-map (λ day. IsRead (on deadlines.start day)) (offer_since deadlines.start) (zip d.statuses dates)
      (λ k offer lt. on_offer deadlines.start (get_or (zip d.statuses dates) k offer) is.start);
}

pub dated_some : (d : DossierRows) (dates : List (Option Since)) (asked : Option Deadlines) (deadlines : Deadlines)
    (terms : Terms) → length terms.before ≡ length d.wishes → asked ≡ Some deadlines → IfSome asked IsDeadlines
    → terms ≡ terms_from d dates deadlines → AreDatedFor d (record { start = deadlines.start; terms = terms })
dated_some d dates asked deadlines terms each some is same =
    let long : length (terms_from d dates deadlines).before ≡ length d.wishes =
    ap (λ (t : Terms). length t.before) (sym same) ∙ each in
    rw same (dated_for d dates deadlines long (rw some at is))

-- the terms of a dossier have a day for each wish
pub terms_known : (d : DossierRows) (dated : Option DatedTerms) → IfSome dated (AreDatedFor d)
    → AreTermsFor d (terms_in dated)
terms_known d None known = tt
terms_known d (Some dated) known = known.one_each
