use Rattle.std.proofs.Common.{flat_map, take}
use Rattle.report.specs.DayText.{lapse_line}
use Rattle.report.specs.Pushes.{IsPushed}
use Rattle.report.proofs.day.push_lapses.Given as goal

abbrev pub invariant-loop-lapse : goal.invariant-loop-lapse
invariant-loop-lapse l = IsPushed l.fn.text l.text (flat_map (lapse_line l.dossier l.start l.term)
    (take l.lapse-index l.lapses))
