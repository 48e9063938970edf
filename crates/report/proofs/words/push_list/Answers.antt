use Rattle.std.proofs.Common.{arith}
use Rattle.std.specs.Fmt.{decimal}
use Rattle.report.proofs.Pushing.{cut_off}
use Rattle.report.proofs.PushedWords.{word_cut, word_pushed, words_end}
use Rattle.report.proofs.words.push_list.Goals as goal

pub returns-in_err-push_spaced : goal.returns-in_err-push_spaced
returns-in_err-push_spaced c =
    cut_off c.from_residual.result c.from_residual.ensures.0
    (word_cut decimal c.args.numbers.now c.loop-number.number-index _ (omega arith) c.loop-number.invariant
    c.in_err-push_spaced.ensures)

pub loop-number-preserved : goal.loop-number-preserved
loop-number-preserved c =
    word_pushed decimal c.args.numbers.now c.loop-number.number-index _ (omega arith) c.loop-number.invariant
    c.in_ok-push_spaced.ensures

pub returns : goal.returns
returns c =
    words_end decimal c.args.numbers.now c.push_end.result c.args.text.now c.loop-number.text c.push_end.new.text
    c.loop-number.number-index (omega arith) c.loop-number.invariant c.push_end.ensures
