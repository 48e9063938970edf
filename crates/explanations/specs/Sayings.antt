-- What an explanation says of the evening.
use Rattle.std.specs.Prelude.{◌≡◌, ◌≤◌, ◌<◌, ℕ, false, length, Some, slice_index, ⊤, if◌then◌else◌}
use Rattle.admit_core.specs.declared.dossier.Wish.{Wish}
use Rattle.admit_core.specs.declared.explanation.BarCause.{BarCause}
use Rattle.admit_core.specs.declared.explanation.BarCause.TheVariants.{Ceiling, Full}
use Rattle.admit_core.specs.declared.explanation.Explanation.{Explanation}
use Rattle.admit_core.specs.declared.explanation.Explanation.TheVariants.{Gone, Live, Barred, NoSeat}
use Rattle.admit_core.specs.DossierRows.{beds_of}
use Rattle.admit_core.specs.State.{State, bed_holders, holds_bed, holds_seat, seats_left}
use Rattle.admit_core.specs.declared.state.Mark.{Mark}
use Rattle.admit_core.specs.Explanations.{LastPass, barred_at, explanation, no_seat}
use Rattle.admit_core.specs.Proposals.{is_barred}
use Rattle.day_state.specs.Kept.{mark_in, wish_in}

-- the bar of a school fell below its ceiling, and at least as many candidates as it has beds are
-- live there
pub record IsFull (last : LastPass) (evening : State) (h beds : ℕ) : Type 0 where
  pub all_beds : beds ≡ beds_of evening.dossier h
  pub fell : slice_index last.bars h < slice_index last.ceilings h
  pub taken : beds ≤ length (bed_holders evening h)

abbrev pub IsCause : LastPass → State → ℕ → BarCause → Type 0
IsCause last evening h Ceiling = slice_index last.bars h ≡ slice_index last.ceilings h
IsCause last evening h (Full beds) = IsFull last evening h beds

-- the candidate ranks behind the bar of the wish's school, which is one of the dossier, and is not
-- live there
pub record FindsNoBed (last : LastPass) (evening : State) (w : Wish) (h rank bar : ℕ)
    (cause : BarCause) : Type 0 where
  pub school : w.school ≡ Some h
  pub there : h < length evening.dossier.schools
  pub behind : bar < rank
  pub bedless : holds_bed evening w.candidate h ≡ false
  pub because : IsCause last evening h cause

-- at least as many stood ahead as seats were left, and the position is past the limit; the
-- candidate is not live in the programme, which has no seat left
pub record FindsNoSeat (evening : State) (w : Wish) (ahead left position limit : ℕ) : Type 0 where
  pub taken : left ≤ ahead
  pub beyond : limit < position
  pub seatless : holds_seat evening w.candidate w.programme ≡ false
  pub filled : seats_left evening w.programme ≡ 0

-- what holds in the evening by an explanation of a wish
abbrev pub Says : LastPass → State → Wish → Explanation → Type 0
Says last evening w (Gone status stamp) = ⊤
Says last evening w (Live status stamp) = ⊤
Says last evening w (Barred h rank bar cause) = FindsNoBed last evening w h rank bar cause
Says last evening w (NoSeat ahead left position limit) =
    FindsNoSeat evening w ahead left position limit

-- the explanation of a wish that waits in the evening, and had the mark m when the last pass began
abbrev pub waiting_case : LastPass → Wish → Mark → Explanation
waiting_case last w m =
    if is_barred last.opening last.bars w m then barred_at last w.board_rank w.school
    else no_seat last w

-- the explanation of the wish at a place
abbrev pub explanation_at : LastPass → State → ℕ → Explanation
explanation_at last evening place =
    explanation last (mark_in evening.marks place) (wish_in evening.dossier.wishes place)
    (mark_in last.opening.marks place)

-- the one case that holds of the wish at a place in an evening, and what it says of that evening
pub record Explains (last : LastPass) (evening : State) (place : ℕ) (x : Explanation) : Type 0 where
  pub is_case : x ≡ explanation_at last evening place
  pub says : Says last evening (wish_in evening.dossier.wishes place) x
