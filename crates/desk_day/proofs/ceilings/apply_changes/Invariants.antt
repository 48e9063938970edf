use Rattle.std.proofs.Common.{◌≡◌, length, drop}
use Rattle.desk_day.specs.Ceilings.{changed}
use Rattle.desk_day.proofs.ceilings.apply_changes.Given as goal

abbrev pub invariant-loop-change : goal.invariant-loop-change
invariant-loop-change l = record {
  long : length l.ceilings.items ≡ length l.fn.ceilings.items;
  rest : changed l.day (drop l.change-index l.changes) l.ceilings.items ≡ changed l.day l.changes l.fn.ceilings.items;
}
