use Rattle.std.proofs.Common.{◌≡◌, ◌≤◌, length, sum, take}
use Rattle.linked_demand.proofs.wishing.counts_by_group.Given as goal

abbrev pub invariant-loop-programme : goal.invariant-loop-programme
invariant-loop-programme l = record {
  one_each : length l.counts.items ≡ length l.state.dossier.groups;
  few : sum l.counts.items ≤ sum (take l.programme l.by_programme);
}
