use Rattle.std.proofs.Common.{◌≡◌, map, take, length}
use Rattle.admit_core.specs.Standing.{ranked_in}
use Rattle.dossier_check.proofs.groups.ranked_lists.Given as goal

abbrev pub invariant-loop-number : goal.invariant-loop-number
invariant-loop-number l = record {
  laid : map (λ v. v.items) l.lists.items ≡ map (ranked_in (take l.number l.rankings)) l.groups.keys;
  len : length l.lists.items ≡ length l.groups.keys;
}
