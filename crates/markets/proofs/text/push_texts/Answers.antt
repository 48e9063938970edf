use Rattle.std.proofs.Common.{arith}
use Rattle.report.proofs.Pushing.{cut_item, cut_off}
use Rattle.markets.proofs.text.push_texts.Goals as goal

pub returns-in_err-push_text : goal.returns-in_err-push_text
returns-in_err-push_text c =
    cut_off c.from_residual.result c.from_residual.ensures.0
    (cut_item (λ t. t.now) c.args.texts.now c.loop-added.added-index _ (omega arith) c.loop-added.invariant
    c.in_err-push_text.ensures)
