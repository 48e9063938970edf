use Rattle.std.proofs.Common.{arith}
use Rattle.flags.proofs.NextSet.{first_bit, in_word, none_behind}
use Rattle.flags.proofs.words.next_bit.Goals as goal

pub returns-then-rest-eq0 : goal.returns-then-rest-eq0
returns-then-rest-eq0 c = none_behind c.args.word c.args.place c.if-rest-eq0.true

pub overflow_add-result : goal.overflow_add-result
overflow_add-result c =
    omega (arith, in_word c.args.word c.args.place c.ranges.word.fits (omega arith), c.ranges.place.fits)

pub returns : goal.returns
returns c = first_bit c.args.word c.args.place c.ranges.word.fits (omega arith)
