use Rattle.std.proofs.Common.{flat_map, take}
use Rattle.certificate.specs.ChainText.{day_lines}
use Rattle.report.specs.Pushes.{IsPushed}
use Rattle.certificate.proofs.write.push_days.Given as goal

abbrev pub invariant-loop-day : goal.invariant-loop-day
invariant-loop-day l = IsPushed l.fn.text l.text (flat_map (day_lines l.dossier) (take l.day-index l.days))
