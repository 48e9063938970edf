-- What a pass promises to those who wait after it.
use Rattle.std.specs.Prelude.{◌≡◌, ℕ, ◌<◌, false, List, length, slice_index, Contains, IsTrue}
use Rattle.admit_core.specs.declared.dossier.Wish.{Wish}
use Rattle.admit_core.specs.declared.ranking.CallOrder.{CallOrder}
use Rattle.admit_core.specs.declared.state.Mark.{Mark}
use Rattle.admit_core.specs.declared.state.Stamp.{Stamp}
use Rattle.admit_core.specs.Boarding.{boarding}
use Rattle.admit_core.specs.Days.{offered}
use Rattle.admit_core.specs.Falls.{IsGreatest}
use Rattle.admit_core.specs.Lists.{is_among}
use Rattle.admit_core.specs.Proposals.{before, is_barred, is_open, is_proposed}
use Rattle.admit_core.specs.State.{State, free_beds, has_school}
use Rattle.admit_core.specs.Validity.{IsValid}
use Rattle.round.specs.PassLaws.{new_bed_holders, new_seat_holders}

-- where an open wish is not proposed, whoever becomes live in its programme comes before its
-- candidate in the call order
abbrev pub NobodyIsPassedOver : Type 0
NobodyIsPassedOver =
    (s : State) (orders : List CallOrder) (bars : List ℕ) (stamp : Stamp) (w : Wish)
    (m : Mark) (c : ℕ)
    → IsTrue (is_open s bars w m) → is_proposed s orders bars w m ≡ false
    → IsTrue (is_among c (new_seat_holders s (offered s orders bars stamp) w.programme))
    → IsTrue (is_among c (before s orders w))

-- exactly the free beds of the school are newly taken, each by a candidate of better rank there
-- than that of the wish
pub record GoToBetterRanks (s new : State) (h : ℕ) (w : Wish) : Type 0 where
  pub all_taken : length (new_bed_holders s new h) ≡ free_beds s h
  pub better : (c : ℕ) (v : Wish) → IsTrue (is_among c (new_bed_holders s new h))
      → Contains s.dossier.wishes v → v.candidate ≡ c → IsTrue (has_school v h)
      → v.board_rank < w.board_rank

-- so it is where a wish is barred though the bar is below its ceiling
abbrev pub NoBedGoesToWorseRank : Type 0
NoBedGoesToWorseRank =
    (s : State) (orders : List CallOrder) (ceilings bars : List ℕ) (stamp : Stamp) (w : Wish)
    (m : Mark) (h : ℕ)
    → IsValid s.dossier → IsGreatest (boarding s orders ceilings) bars
    → IsTrue (has_school w h) → IsTrue (is_barred s bars w m)
    → slice_index bars h < slice_index ceilings h
    → GoToBetterRanks s (offered s orders bars stamp) h w
