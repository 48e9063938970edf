use Rattle.std.proofs.Common.{flat_map, take}
use Rattle.std.specs.List.{enumerate_from}
use Rattle.certificate.specs.ChainText.{pass_lines}
use Rattle.report.specs.Pushes.{IsPushed}
use Rattle.certificate.proofs.write.push_passes.Given as goal

abbrev pub invariant-loop-index : goal.invariant-loop-index
invariant-loop-index l = IsPushed l.fn.text l.text (flat_map (pass_lines l.dossier)
    (take l.index (enumerate_from 1 l.passes)))
