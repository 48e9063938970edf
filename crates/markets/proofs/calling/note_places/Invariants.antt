use Rattle.std.proofs.Common.{◌≡◌, length}
use Rattle.markets.proofs.Walking.{AreNotedTo}
use Rattle.markets.proofs.calling.note_places.Given as goal

abbrev pub invariant-loop-place : goal.invariant-loop-place
invariant-loop-place l = record {
  noted : AreNotedTo l.place l.numbers l.places.items;
  as_many : length l.places.items ≡ length l.fn.places.items;
}
