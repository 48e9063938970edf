use Rattle.std.proofs.Common.{arith}
use Rattle.admit_core.specs.Lines.{bound_letter}
use Rattle.report.proofs.Pushing.{cut_off}
use Rattle.report.proofs.PushedWords.{word_cut, word_pushed, words_end}
use Rattle.report.proofs.words.push_letters.Goals as goal

pub returns-in_err-push_letter : goal.returns-in_err-push_letter
returns-in_err-push_letter c =
    cut_off c.from_residual.result c.from_residual.ensures.0
    (word_cut bound_letter c.args.bounds.now c.loop-bound.bound-index _ (omega arith) c.loop-bound.invariant
    c.in_err-push_letter.ensures)

pub loop-bound-preserved : goal.loop-bound-preserved
loop-bound-preserved c =
    word_pushed bound_letter c.args.bounds.now c.loop-bound.bound-index _ (omega arith) c.loop-bound.invariant
    c.in_ok-push_letter.ensures

pub returns : goal.returns
returns c =
    words_end bound_letter c.args.bounds.now c.push_end.result c.args.text.now c.loop-bound.text c.push_end.new.text
    c.loop-bound.bound-index (omega arith) c.loop-bound.invariant c.push_end.ensures
