use Rattle.std.proofs.Common.{◌≡◌, ◌≤◌, length, sum}
use Rattle.linked_demand.proofs.wishing.counts_by_programme.Given as goal

abbrev pub invariant-loop-place : goal.invariant-loop-place
invariant-loop-place l = record {
  one_each : length l.counts.items ≡ length l.state.dossier.programmes;
  few : sum l.counts.items ≤ l.place;
}
