use Rattle.std.proofs.Common.{◌≡◌, ◌-◌, map, drop, length}
use Rattle.dossier_check.specs.Statuses.{status_in}
use Rattle.dossier_check.proofs.statuses.statuses_of.Given as goal

abbrev pub invariant-loop-after : goal.invariant-loop-after
invariant-loop-after l = record {
  put : l.statuses.items ≡ map (status_in (drop (length l.tables.state - l.after) l.tables.state)) l.tables.wishes;
  len : length l.statuses.items ≡ length l.wishes.keys;
}
