-- The final state, which reads as a state slot after its first line.
use Rattle.std.specs.Prelude.{◌≡◌, ℕ, ◌<◌, ℤ, pos, true, List, [], ◌∷◌, ◌++◌, codes, flat_map, length, slice_index_or}
use Rattle.std.specs.Prelude.{if◌then◌else◌}
use Rattle.std.specs.Fmt.{decimal}
use Rattle.std.specs.List.{enumerate_from}
use Rattle.admit_core.specs.Answers.{mark_at, status_at}
use Rattle.admit_core.specs.Lapses.{is_offered, offer_day}
use Rattle.admit_core.specs.Lines.{status_word}
use Rattle.admit_core.specs.State.{State}
use Rattle.admit_core.specs.declared.dossier.Wish.{Wish}
use Rattle.calendar.specs.Dates.{IsCivil}
use Rattle.calendar.specs.Texts.{date_text}
use Rattle.report.specs.DayText.{date_on}
use Rattle.report.specs.Words.{line, row}

-- a wish at its place, with its status
abbrev pub status_row : State → ℕ × Wish → List ℕ
status_row s (place, wish) = row (decimal wish.id ∷ status_word (status_at s place) ∷ [])

abbrev pub final_text : State → List ℕ
final_text s =
    line (codes "final" ∷ []) ++ row (codes "wish" ∷ codes "status" ∷ [])
    ++ flat_map (status_row s) (enumerate_from 0 s.dossier.wishes)

-- the day of the offer of the wish at a place
abbrev pub offer_day_at : State → List ℤ → ℕ → ℤ
offer_day_at s before place = offer_day (slice_index_or before place (pos 0)) (mark_at s place)

-- since when an offer stands; empty for any other wish
abbrev pub since_word : State → ℤ → List ℤ → ℕ → List ℕ
since_word s start before place =
    if is_offered (status_at s place) then date_text (date_on start (offer_day_at s before place))
    else []

abbrev pub dated_row : State → ℤ → List ℤ → ℕ × Wish → List ℕ
dated_row s start before (place, wish) =
    row (decimal wish.id ∷ status_word (status_at s place) ∷ since_word s start before place ∷ [])

abbrev pub final_dated_text : State → ℤ → List ℤ → List ℕ
final_dated_text s start before =
    line (codes "final" ∷ []) ++ row (codes "wish" ∷ codes "status" ∷ codes "since" ∷ [])
    ++ flat_map (dated_row s start before) (enumerate_from 0 s.dossier.wishes)

-- the date of the offer of the wish at a place can be written, where it is offered
abbrev pub HasDate : State → ℤ → List ℤ → ℕ → Type 0
HasDate s start before place =
    is_offered (status_at s place) ≡ true → IsCivil (date_on start (offer_day_at s before place))

-- each offer's date can be written
pub record HasDates (s : State) (start : ℤ) (before : List ℤ) : Type 0 where
  pub start_date : IsCivil start
  pub one_before_each : length before ≡ length s.dossier.wishes
  pub offers : (place : ℕ) → place < length s.dossier.wishes → HasDate s start before place
