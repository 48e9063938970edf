-- What the tables of the next morning stand for where offers have deadlines, and what a run over
-- them is.
use Rattle.std.specs.Prelude.{◌≡◌, ◌+◌, ◌+ℤ◌, ℕ, pos, List, None, Option, Some, length, map}
use Rattle.std.specs.List.{range_with_len}
use Rattle.admit_core.specs.declared.ranking.CallOrder.{CallOrder}
use Rattle.admit_core.specs.declared.records.DayRecord.{DayRecord}
use Rattle.admit_core.specs.declared.records.Terms.{Terms}
use Rattle.admit_core.specs.declared.tables.Tables.{Tables}
use Rattle.admit_core.specs.Days.{Days, first_evening}
use Rattle.admit_core.specs.Lapses.{AreTermsFor}
use Rattle.admit_core.specs.OwnWishes.{IsOneAccepted}
use Rattle.admit_core.specs.Ranges.{AreTables}
use Rattle.admit_core.specs.Relations.{first_fault}
use Rattle.admit_core.specs.Standing.{dossier_of}
use Rattle.admit_core.specs.State.{State}
use Rattle.cut_laws.specs.Alike.{HaveEqualStatuses}
use Rattle.cut_laws.specs.Cut.{StandAlike, cut_at, later}
use Rattle.dossier_check.specs.Dates.{dates_of}
use Rattle.intake.specs.Dated.{terms_from}
use Rattle.intake.specs.declared.terms.DatedTerms.{DatedTerms}
use Rattle.text_laws.specs.ReadBack.{HaveReadDates, since_when}
use Rattle.next_morning.specs.Laws.{IsEveningOf}
use Rattle.next_morning.specs.Morning.{morning_tables}

-- the dates decide nothing about the dossier
abbrev pub DatedTablesAreOfTheCut : Type 0
DatedTablesAreOfTheCut =
    (a : ℕ) (t : Tables) (evening : State) (dated : Option DatedTerms)
    → IsEveningOf t evening
    → dossier_of (morning_tables a t evening dated) ≡ cut_at a evening

-- nor about what a check accepts
abbrev pub DatedTablesAreAccepted : Type 0
DatedTablesAreAccepted =
    (a : ℕ) (t : Tables) (evening : State) (dated : Option DatedTerms)
    → IsEveningOf t evening
    → AreTables t
    → first_fault t ≡ None
    → IsOneAccepted evening
    → AreTables (morning_tables a t evening dated)
    × (first_fault (morning_tables a t evening dated) ≡ None)

-- each wish has the date that the final lines give it
abbrev pub DatesAreOfTheEvening : Type 0
DatesAreOfTheEvening =
    (a : ℕ) (t : Tables) (evening : State) (dated : DatedTerms)
    → IsEveningOf t evening
    → dates_of (morning_tables a t evening (Some dated))
    ≡ map (since_when evening dated.start dated.terms.before)
    (range_with_len 0 (length evening.dossier.wishes))

-- the terms that come of these tables where day 1 is a days later
abbrev pub next_terms : ℕ → Tables → State → DatedTerms → Terms
next_terms a t evening dated =
    let next : Tables = morning_tables a t evening (Some dated) in
    terms_from (dossier_of next) (dates_of next)
    (record { start = dated.start +ℤ pos a; term = dated.terms.term })

-- by these the open offers stand as those of the evening, dated a days earlier
abbrev pub DatedOffersStandAlike : Type 0
DatedOffersStandAlike =
    (a : ℕ) (t : Tables) (evening : State) (dated : DatedTerms)
    → IsEveningOf t evening
    → AreTermsFor evening.dossier (Some dated.terms)
    → HaveReadDates evening dated.start dated.terms.before
    → StandAlike a (Some dated.terms) evening (Some (next_terms a t evening dated))
    (first_evening (dossier_of (morning_tables a t evening (Some dated))))

-- days that were run under these terms are the days that follow the evening, and leave the same
-- statuses and open offers
abbrev pub AreTheRestBy :
    Option Terms → Option Terms → List CallOrder → ℕ → State → List DayRecord → State → Type 0
AreTheRestBy terms others orders a evening days other =
    (last : State) × HaveEqualStatuses last other × StandAlike a terms last others other
    × Days terms orders (a + 1) evening (map (later a) days) last

-- whatever days are run over the tables under the terms that come of them, they are the rest of the
-- campaign
abbrev pub DatedRunsAreTheRest : Type 0
DatedRunsAreTheRest =
    (a : ℕ) (t : Tables) (evening : State) (dated : DatedTerms) (orders : List CallOrder)
    (days : List DayRecord) (other : State)
    → IsEveningOf t evening
    → AreTermsFor evening.dossier (Some dated.terms)
    → HaveReadDates evening dated.start dated.terms.before
    → Days (Some (next_terms a t evening dated)) orders 1
    (first_evening (dossier_of (morning_tables a t evening (Some dated)))) days other
    → AreTheRestBy (Some dated.terms) (Some (next_terms a t evening dated)) orders a evening days
    other
