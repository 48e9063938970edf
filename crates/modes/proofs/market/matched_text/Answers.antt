use Rattle.admit_core.proofs.Plain.{on_err}
use Rattle.bar_fixpoint.proofs.RunLaws.{none_told}
use Rattle.modes.proofs.market.matched_text.Goals as goal

pub returns-in_err-named-clause-breaks : goal.returns-in_err-named-clause-breaks
returns-in_err-named-clause-breaks g c = on_err c.from_residual.result (none_told _ _ _)
