use Rattle.std.proofs.Common.{◌≡◌, ◌≤◌, length, sum}
use Rattle.linked_demand.proofs.boarders.counts_by_school.Given as goal

abbrev pub invariant-loop-boarder : goal.invariant-loop-boarder
invariant-loop-boarder l = record {
  one_each : length l.counts.items ≡ l.schools;
  few : sum l.counts.items ≤ l.boarder-index;
}
