use Rattle.std.proofs.Common.{◌≡◌, ◌<◌, ℕ, ◌&&◌, false, get_or, length, not, take}
use Rattle.admit_core.specs.Lists.{is_among}
use Rattle.day_state.specs.Kept.{has_bed_there}
use Rattle.linked_demand.specs.Boarders.{items_wishes}
use Rattle.linked_demand.proofs.opening.close_behind.Given as goal

abbrev pub invariant-loop-item : goal.invariant-loop-item
invariant-loop-item l =
    record {
      as_long : length l.opens ≡ length l.initial.opens;
      each : (k : ℕ) → k < length l.initial.opens → get_or l.opens k false
          ≡ (get_or l.initial.opens k false
          && not (is_among k (take l.item-index (items_wishes l.behind)) && not (has_bed_there l.state k)));
    }
