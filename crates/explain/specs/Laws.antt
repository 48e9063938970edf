-- The laws of explanations.
use Rattle.std.specs.Prelude.{◌≡◌, ◌↔◌, ℕ, not, List, length, map, Option, Some, IsTrue, slice_index}
use Rattle.std.specs.List.{range_with_len}
use Rattle.admit_core.specs.declared.dossier.Wish.{Wish}
use Rattle.admit_core.specs.declared.explanation.Explanation.{Explanation}
use Rattle.admit_core.specs.declared.explanation.Explanation.TheVariants.{Gone, Live, Barred, NoSeat}
use Rattle.admit_core.specs.declared.ranking.CallOrder.{CallOrder}
use Rattle.admit_core.specs.declared.records.DayRecord.{DayRecord}
use Rattle.admit_core.specs.declared.records.Terms.{Terms}
use Rattle.admit_core.specs.declared.state.Mark.{Mark}
use Rattle.admit_core.specs.CallOrder.{AreCallOrders}
use Rattle.admit_core.specs.State.{State, is_gone, is_live, is_waiting}
use Rattle.admit_core.specs.Proposals.{is_barred}
use Rattle.admit_core.specs.Days.{Days, IsDay, ceilings_of}
use Rattle.admit_core.specs.EveningLaws.{last_bars}
use Rattle.admit_core.specs.Explanations.{LastPass, cause_of, explained, explanation, no_seat}
use Rattle.desk_day.specs.RunDay.{IsDayDone, Moment}
use Rattle.desk_day.specs.LastPasses.{IsLastPass, last_of, last_pass}
use Rattle.explanations.specs.Sayings.{explanation_at}

-- each case by a condition of its own: what it takes for a wish that has the mark now in the
-- evening, and had m in the opening
pub record IsBarredBy (last : LastPass) (now : Mark) (w : Wish) (m : Mark)
    (h rank bar : ℕ) : Type 0 where
  pub waits : IsTrue (is_waiting now)
  pub barred : IsTrue (is_barred last.opening last.bars w m)
  pub school : w.school ≡ Some h
  pub own_rank : rank ≡ w.board_rank
  pub own_bar : bar ≡ slice_index last.bars h

pub record HasNoSeat (last : LastPass) (now : Mark) (w : Wish) (m : Mark)
    (x : Explanation) : Type 0 where
  pub waits : IsTrue (is_waiting now)
  pub not_barred : IsTrue (not (is_barred last.opening last.bars w m))
  pub numbers : x ≡ no_seat last w

abbrev pub IsExplanation : LastPass → Mark → Wish → Mark → Explanation → Type 0
IsExplanation last now w m (Gone status stamp) =
    IsTrue (is_gone now) × (now ≡ record { status = status; stamp = stamp })
IsExplanation last now w m (Live status stamp) =
    IsTrue (is_live now) × (now ≡ record { status = status; stamp = stamp })
IsExplanation last now w m (Barred h rank bar cause) =
    IsBarredBy last now w m h rank bar × (cause ≡ cause_of last h)
IsExplanation last now w m (NoSeat ahead left position limit) =
    HasNoSeat last now w m (NoSeat ahead left position limit)

-- of each wish exactly one explanation holds
abbrev pub EachHasOne : Type 0
EachHasOne = (last : LastPass) (now : Mark) (w : Wish) (m : Mark) (x : Explanation)
    → IsExplanation last now w m x ↔ (x ≡ explanation last now w m)

-- the explanations by place are those of all wishes
abbrev pub EachIsListed : Type 0
EachIsListed =
    (last : LastPass) (evening : State)
    → evening.dossier ≡ last.opening.dossier
    → length evening.marks ≡ length evening.dossier.wishes
    → length last.opening.marks ≡ length last.opening.dossier.wishes
    → explained last evening.marks
    ≡ map (explanation_at last evening) (range_with_len 0 (length evening.dossier.wishes))

-- each day ended with its last pass
abbrev pub DaysEndSo : Type 0
DaysEndSo =
    (terms : Option Terms) (orders : List CallOrder) (ceilings : List ℕ) (old : State)
    (day : DayRecord) (evening : State)
    → AreCallOrders old.dossier.groups orders
    → length ceilings ≡ length old.dossier.schools
    → IsDay terms orders ceilings old day evening
    → IsLastPass (last_of terms orders ceilings old day) evening

-- so did a day that was run on a desk
abbrev pub DesksEndSo : Type 0
DesksEndSo =
    (terms : Option Terms) (orders : List CallOrder) (ceilings : List ℕ) (day : ℕ) (before : Moment)
    (done : DayRecord) (after : Moment)
    → AreCallOrders before.desk.present.dossier.groups orders
    → length ceilings ≡ length before.desk.present.dossier.schools
    → IsDayDone terms orders ceilings day before done after
    → IsLastPass (last_pass after.desk.opening orders ceilings (last_bars done.passes))
    after.desk.present

-- whichever schools were picked, days of one number from one evening are explained alike
abbrev pub DaysFixThem : Type 0
DaysFixThem =
    (terms : Option Terms) (orders : List CallOrder) (ceilings : List ℕ) (old : State)
    (one other : DayRecord) (evening night : State)
    → one.day ≡ other.day
    → IsDay terms orders ceilings old one evening
    → IsDay terms orders ceilings old other night
    → explained (last_of terms orders ceilings old one) evening.marks
    ≡ explained (last_of terms orders ceilings old other) night.marks

-- what a campaign explains after its last day depends on the dossier, the terms and the number of
-- days alone
abbrev pub CampaignsFixThem : Type 0
CampaignsFixThem =
    (terms : Option Terms) (orders others : List CallOrder) (first last : ℕ) (old : State)
    (days twins : List DayRecord) (day twin : DayRecord)
    (noon noon_too evening night : State)
    → AreCallOrders old.dossier.groups orders
    → AreCallOrders old.dossier.groups others
    → length days ≡ length twins
    → Days terms orders first old days noon
    → Days terms others first old twins noon_too
    → day.day ≡ twin.day
    → IsDay terms orders (ceilings_of old.dossier last) noon day evening
    → IsDay terms others (ceilings_of old.dossier last) noon_too twin night
    → explained (last_of terms orders (ceilings_of old.dossier last) noon day) evening.marks
    ≡ explained (last_of terms others (ceilings_of old.dossier last) noon_too twin) night.marks
