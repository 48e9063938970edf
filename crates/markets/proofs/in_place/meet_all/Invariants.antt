use Rattle.markets.specs.Meeting.{AreMet}
use Rattle.markets.proofs.in_place.meet_all.Given as goal

abbrev pub invariant-loop-place : goal.invariant-loop-place
invariant-loop-place l = AreMet l.lists l.orders l.place l.notes
