-- The tables of the morning after an evening.
use Rattle.std.specs.Prelude.{◌≡◌, ℕ, ◌-◌, List, [], Option, Some, None, filter, map, nat_lt, zip}
use Rattle.admit_core.specs.declared.state.Mark.{Mark}
use Rattle.admit_core.specs.declared.tables.AnswerRow.{AnswerRow}
use Rattle.admit_core.specs.declared.tables.CeilingRow.{CeilingRow}
use Rattle.admit_core.specs.declared.tables.SchoolRow.{SchoolRow}
use Rattle.admit_core.specs.declared.tables.StateRow.{StateRow}
use Rattle.admit_core.specs.declared.tables.Tables.{Tables}
use Rattle.admit_core.specs.declared.tables.WishRow.{WishRow}
use Rattle.admit_core.specs.Days.{ceilings_of}
use Rattle.admit_core.specs.State.{State}
use Rattle.intake.specs.declared.terms.DatedTerms.{DatedTerms}
use Rattle.report.specs.FinalText.{HasDates}
use Rattle.text_laws.specs.ReadBack.{dated_rows}

-- a school with the ceiling of a day
abbrev pub with_ceiling : SchoolRow × ℕ → SchoolRow
with_ceiling x = record x.0 { ceiling = x.1 }

-- a row of the state
abbrev pub state_row : WishRow × Mark → StateRow
state_row x = record { wish = x.0.id; status = x.1.status; since = None }

-- the ceilings of later days, each dated a days earlier
abbrev pub later_ceilings : ℕ → List CeilingRow → List CeilingRow
later_ceilings a rows =
    map (λ (x : CeilingRow). record x { day = x.day - a }) (filter (λ x. nat_lt a x.day) rows)

-- the answers of later days, each dated a days earlier
abbrev pub later_answers : ℕ → List AnswerRow → List AnswerRow
later_answers a rows =
    map (λ (x : AnswerRow). record x { day = x.day - a }) (filter (λ x. nat_lt a x.day) rows)

-- the morning after day a has no row of the slots that a day changes
pub record HasNoRows (a : ℕ) (t : Tables) : Type 0 where
  pub schools : t.schools ≡ []
  pub wishes : t.wishes ≡ []
  pub ceilings : later_ceilings a t.ceilings ≡ []
  pub answers : later_answers a t.answers ≡ []

-- the tables of the morning after day a: the rows as they were, but that the schools have their
-- ceilings of that day, each wish its status of the evening, and later days are counted from there
abbrev pub tables_after : ℕ → Tables → State → Tables
tables_after a t evening =
    record t {
      schools = map with_ceiling (zip t.schools (ceilings_of evening.dossier a));
      state = map state_row (zip t.wishes evening.marks);
      ceilings = later_ceilings a t.ceilings;
      answers = later_answers a t.answers;
    }

-- each date of an evening's open offers can be written
abbrev pub HaveDates : State → DatedTerms → Type 0
HaveDates evening dated = HasDates evening dated.start dated.terms.before

-- the rows of the state: where offers have deadlines, those that the final lines are read as, with
-- the date of each open offer
abbrev pub told_rows : List WishRow → State → Option DatedTerms → List StateRow
told_rows wishes evening None = map state_row (zip wishes evening.marks)
told_rows wishes evening (Some dated) = dated_rows evening dated.start dated.terms.before

-- the same tables, with the dates of open offers where these have deadlines
abbrev pub morning_tables : ℕ → Tables → State → Option DatedTerms → Tables
morning_tables a t evening dated =
    record (tables_after a t evening) { state = told_rows t.wishes evening dated }
