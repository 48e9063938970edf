use Rattle.std.proofs.Common.{flat_map, take}
use Rattle.report.specs.DayText.{auto_line}
use Rattle.report.specs.Pushes.{IsPushed}
use Rattle.report.proofs.day.push_autos.Given as goal

abbrev pub invariant-loop-change : goal.invariant-loop-change
invariant-loop-change l = IsPushed l.fn.text l.text (flat_map (auto_line l.dossier) (take l.change-index l.autos))
