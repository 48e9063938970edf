use Rattle.std.proofs.Common.{flat_map, take}
use Rattle.std.specs.List.{enumerate_from}
use Rattle.report.specs.Pushes.{IsPushed}
use Rattle.markets.specs.Text.{cut_line}
use Rattle.markets.proofs.text.push_cuts.Given as goal

abbrev pub invariant-loop-place : goal.invariant-loop-place
invariant-loop-place l =
    IsPushed l.fn.text l.text (flat_map (cut_line l.bars) (take l.place (enumerate_from 0 l.programmes)))
