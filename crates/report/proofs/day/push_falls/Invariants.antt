use Rattle.std.proofs.Common.{flat_map, take}
use Rattle.report.specs.DayText.{fall_line}
use Rattle.report.specs.Pushes.{IsPushed}
use Rattle.report.proofs.day.push_falls.Given as goal

abbrev pub invariant-loop-fall : goal.invariant-loop-fall
invariant-loop-fall l = IsPushed l.fn.text l.text (flat_map (fall_line l.dossier) (take l.fall-index l.falls))
