use Rattle.std.proofs.Common.{◌∷◌, []}
use Rattle.report.proofs.Pushing.{cut_off, cut_off_first}
use Rattle.slot_text.proofs.rows.push_since.Goals as goal

pub returns-in_err-push_date-in-Some : goal.returns-in_err-push_date-in-Some
returns-in_err-push_date-in-Some c =
    cut_off c.from_residual.result c.from_residual.ensures.0
    (rw c.in-Some.is (cut_off_first (10 ∷ []) c.in_err-push_date-in-Some.ensures))
