use Rattle.std.proofs.Common.{arith, decimal}
use Rattle.report.specs.Ids.{wish_id}
use Rattle.report.proofs.Pushing.{cut_off}
use Rattle.report.proofs.PushedWords.{word_cut, word_pushed, words_end}
use Rattle.report.proofs.day.push_wishes.Goals as goal

pub returns-in_err-push_spaced : goal.returns-in_err-push_spaced
returns-in_err-push_spaced c =
    cut_off c.from_residual.result c.from_residual.ensures.0
    (word_cut (λ w. decimal (wish_id c.args.dossier.now w)) c.args.wishes.now c.loop-wish.wish-index 0 (omega arith)
    c.loop-wish.invariant (rw c.wish_id.ensures at c.in_err-push_spaced.ensures))

pub loop-wish-preserved : goal.loop-wish-preserved
loop-wish-preserved c =
    word_pushed (λ w. decimal (wish_id c.args.dossier.now w)) c.args.wishes.now c.loop-wish.wish-index 0 (omega arith)
    c.loop-wish.invariant (rw c.wish_id.ensures at c.in_ok-push_spaced.ensures)

pub returns : goal.returns
returns c =
    words_end (λ w. decimal (wish_id c.args.dossier.now w)) c.args.wishes.now c.push_end.result c.args.text.now
    c.loop-wish.text c.push_end.new.text c.loop-wish.wish-index (omega arith) c.loop-wish.invariant
    c.push_end.ensures
