use Rattle.report.specs.DayText.{offer_line}
use Rattle.std.proofs.Common.{arith}
use Rattle.report.proofs.Pushing.{cut_item, cut_off, pushed_item}
use Rattle.report.proofs.day.push_offers.Goals as goal

pub returns-in_err-push_offer : goal.returns-in_err-push_offer
returns-in_err-push_offer c =
    cut_off c.from_residual.result c.from_residual.ensures.0
    (cut_item (offer_line c.args.dossier.now) c.args.offers.now c.loop-wish.wish-index 0 (omega arith)
    c.loop-wish.invariant c.in_err-push_offer.ensures)

pub loop-wish-preserved : goal.loop-wish-preserved
loop-wish-preserved c =
    pushed_item (offer_line c.args.dossier.now) c.args.offers.now c.loop-wish.wish-index 0 (omega arith)
    c.loop-wish.invariant c.in_ok-push_offer.ensures
