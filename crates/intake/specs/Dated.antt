-- The terms of offers, with the date of day 1.
use Rattle.std.specs.Prelude.{◌≡◌, ◌≤◌, ℤ, pos, ◌+ℤ◌, ◌-ℤ◌, List, Option, All, length, map, option_map, unwrap_or, zip}
use Rattle.std.specs.Prelude.{if◌then◌else◌}
use Rattle.std.specs.Option.{option_and_then}
use Rattle.admit_core.specs.DossierRows.{DossierRows}
use Rattle.admit_core.specs.Lapses.{is_offered}
use Rattle.admit_core.specs.declared.records.Terms.{Terms}
use Rattle.admit_core.specs.declared.state.Status.{Status}
use Rattle.admit_core.specs.declared.tables.Since.{Since}
use Rattle.calendar.specs.Dates.{IsRead, civil}
use Rattle.request.specs.Request.{IsStart}
use Rattle.request.specs.declared.request.Deadlines.{Deadlines}
use Rattle.intake.specs.declared.terms.DatedTerms.{DatedTerms}

-- the number of a date that was read
abbrev pub date_number : Since → Option ℤ
date_number since = civil since.year since.month since.day

-- which day a date is, where day 1 has the number start; 0 where there is none
abbrev pub day_before : ℤ → Option ℤ → ℤ
day_before start date = unwrap_or (option_map (λ number. number -ℤ start +ℤ pos 1) date) (pos 0)

-- the day of a date that may be there
abbrev pub since_day : ℤ → Option Since → ℤ
since_day start since = day_before start (option_and_then date_number since)

-- the day of an offer's date; 0 where there is no offer, or it has no date
abbrev pub offer_since : ℤ → Status × Option Since → ℤ
offer_since start (status, since) = if is_offered status then since_day start since else pos 0

-- the terms of a dossier's offers, where its wishes have these dates
abbrev pub terms_from : DossierRows → List (Option Since) → Deadlines → Terms
terms_from d dates deadlines =
    record {
      term = deadlines.term;
      before = map (offer_since deadlines.start) (zip d.statuses dates);
    }

abbrev pub dated_from : DossierRows → List (Option Since) → Deadlines → DatedTerms
dated_from d dates deadlines =
    record { start = deadlines.start; terms = terms_from d dates deadlines }

abbrev pub terms_in : Option DatedTerms → Option Terms
terms_in dated = option_map (λ x. x.terms) dated

-- the terms have a day for each wish, and all dates that come of them can be written
pub record AreDatedFor (d : DossierRows) (dated : DatedTerms) : Type 0 where
  pub start : IsStart dated.start
  pub term : dated.terms.term ≤ 366
  pub one_each : length dated.terms.before ≡ length d.wishes
  pub before : All (λ day. IsRead (dated.start +ℤ day -ℤ pos 1)) dated.terms.before
