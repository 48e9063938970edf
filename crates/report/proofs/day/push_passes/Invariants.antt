use Rattle.std.proofs.Common.{flat_map, take}
use Rattle.std.specs.List.{enumerate_from}
use Rattle.report.specs.DayText.{pass_text}
use Rattle.report.specs.Pushes.{IsPushed}
use Rattle.report.proofs.day.push_passes.Given as goal

abbrev pub invariant-loop-index : goal.invariant-loop-index
invariant-loop-index l = IsPushed l.fn.text l.text (flat_map (pass_text l.dossier)
    (take l.index (enumerate_from 1 l.passes)))
