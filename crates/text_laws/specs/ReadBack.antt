-- The lines of the final state, read as a state slot.
use Rattle.std.specs.Prelude.{◌≡◌, ◌<◌, ℕ, ℤ, true, List, [], ◌∷◌, codes, drop, length, map, Ok, Option, Some, None}
use Rattle.std.specs.Prelude.{if◌then◌else◌}
use Rattle.std.specs.List.{enumerate_from}
use Rattle.admit_core.specs.declared.dossier.Wish.{Wish}
use Rattle.admit_core.specs.declared.tables.Since.{Since}
use Rattle.admit_core.specs.declared.tables.StateRow.{StateRow}
use Rattle.admit_core.specs.Answers.{status_at}
use Rattle.admit_core.specs.Lapses.{is_offered}
use Rattle.admit_core.specs.State.{State}
use Rattle.admit_core.specs.Validity.{IsValid}
use Rattle.calendar.specs.Dates.{IsRead, date_of}
use Rattle.dossier_csv.specs.Columns.{since_of}
use Rattle.dossier_csv.specs.Rows as Rows
use Rattle.dossier_csv.specs.Shape.{shape}
use Rattle.report.specs.DayText.{date_on}
use Rattle.report.specs.FinalText.{final_dated_text, final_text, offer_day_at}
use Rattle.report.specs.Words.{line}

-- what stands behind the line `final`
abbrev pub after_final : List ℕ → List ℕ
after_final text = drop (length (line (codes "final" ∷ []))) text

-- the rows of a state slot that has the statuses of a state
abbrev pub state_rows : State → List StateRow
state_rows s =
    map (λ (x : ℕ × Wish). record { wish = x.1.id; status = status_at s x.0; since = None })
    (enumerate_from 0 s.dossier.wishes)

-- since when the offer of a wish at a place stands
abbrev pub since_when : State → ℤ → List ℤ → ℕ → Option Since
since_when s start before place =
    if is_offered (status_at s place)
    then Some (since_of (date_of (date_on start (offer_day_at s before place)))) else None

-- the same rows with the dates of the open offers
abbrev pub dated_rows : State → ℤ → List ℤ → List StateRow
dated_rows s start before =
    map (λ (x : ℕ × Wish). record {
      wish = x.1.id;
      status = status_at s x.0;
      since = since_when s start before x.0;
    }) (enumerate_from 0 s.dossier.wishes)

-- the date of each open offer is one of a year from 1900 to 2299
abbrev pub HaveReadDates : State → ℤ → List ℤ → Type 0
HaveReadDates s start before =
    (place : ℕ) → place < length s.dossier.wishes → is_offered (status_at s place) ≡ true
    → IsRead (date_on start (offer_day_at s before place))

-- so the lines behind `final` are read as the statuses of the state
abbrev pub FinalTextReadsBack : Type 0
FinalTextReadsBack =
    (s : State)
    → IsValid s.dossier
    → shape Rows.state (after_final (final_text s)) ≡ Ok (state_rows s)

-- and where offers have deadlines, with the dates of the open offers
abbrev pub FinalDatedTextReadsBack : Type 0
FinalDatedTextReadsBack =
    (s : State) (start : ℤ) (before : List ℤ)
    → IsValid s.dossier
    → HaveReadDates s start before
    → shape Rows.state (after_final (final_dated_text s start before))
    ≡ Ok (dated_rows s start before)
