use Rattle.std.proofs.Common.{◌≡◌, filter}
use Rattle.std.specs.Prelude.{All}
use Rattle.std.specs.List.{range_with_len}
use Rattle.linked_demand.specs.Boarders.{IsBoarder, wishes_of}
use Rattle.linked_demand.specs.Seats.{boards_at}
use Rattle.linked_demand.proofs.boarders.boarders_by_place.Given as goal

abbrev pub invariant-loop-place : goal.invariant-loop-place
invariant-loop-place l = record {
  wishes : wishes_of l.boarders.items ≡ filter (boards_at l.state.dossier) (range_with_len 0 l.place);
  each : All (IsBoarder l.state.dossier) l.boarders.items;
}
