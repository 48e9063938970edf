use Rattle.std.proofs.Common.{refl}
use Rattle.bar_fixpoint.proofs.RunLaws.{none_told}
use Rattle.round.proofs.EarlyEnds.{picks_early}
use Rattle.round.proofs.one_pass.pass.Goals as goal

pub returns-in_err-roster-clause-picks : goal.returns-in_err-roster-clause-picks
returns-in_err-roster-clause-picks g c = picks_early _ _ _ _ _ _ c.from_residual.ensures.0 (none_told _ _ _) refl
