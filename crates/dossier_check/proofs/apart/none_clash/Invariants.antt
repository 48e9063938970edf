use Rattle.dossier_check.specs.Runs.{IsRunUpTo}
use Rattle.dossier_check.proofs.apart.none_clash.Given as goal

abbrev pub invariant-loop-place : goal.invariant-loop-place
invariant-loop-place l = IsRunUpTo l.rows l.run l.place
