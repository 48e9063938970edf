use Rattle.std.proofs.Common.{flat_map, take}
use Rattle.std.specs.List.{enumerate_from}
use Rattle.bed_need.specs.Text.{bar_line}
use Rattle.report.specs.Pushes.{IsPushed}
use Rattle.bed_need.proofs.text.push_bars.Given as goal

abbrev pub invariant-loop-place : goal.invariant-loop-place
invariant-loop-place l =
    IsPushed l.fn.text l.text (flat_map (bar_line l.before l.after) (take l.place (enumerate_from 0 l.schools)))
