use Rattle.std.proofs.Common.{◌≡◌, ◌≤◌, length}
use Rattle.linked_demand.proofs.guesses.Guesses.renew.Given as goal

abbrev pub invariant-loop-place : goal.invariant-loop-place
invariant-loop-place l = record {
  one_each : length l.self.places.items ≡ l.count;
  within : l.place ≤ length l.applications;
}

abbrev pub decreases-loop-place : goal.decreases-loop-place
decreases-loop-place l = l.place
