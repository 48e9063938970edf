use Rattle.std.proofs.Common.{ℕ, ◌+◌, List, subst, sym}
use Rattle.day_state.proofs.Runs.{AreNumberedTo, numbered_all, numbered_more}
use Rattle.day_state.proofs.index.numbered.Goals as goal

pub loop-from-preserved : goal.loop-from-preserved
loop-from-preserved c =
    let ws = c.args.wishes.now in
    let order = c.args.order.now in
    let to = c.end_of_run-to.result in
    let P = λ (begins : List ℕ).
    AreNumberedTo ws order to (c.loop-from.number + 1) c.put_number.new.numbers.items begins in
    subst P (sym c.in_ok-push.ensures.items)
    (numbered_more ws order c.loop-from.from to c.loop-from.number c.loop-from.numbers.items
    c.put_number.new.numbers.items c.loop-from.begins.items c.requires.index c.loop-from-test.true
    c.loop-from.invariant c.end_of_run-to.ensures.further c.end_of_run-to.ensures.within
    c.end_of_run-to.ensures.alike c.put_number.ensures)

pub returns : goal.returns
returns c =
    numbered_all c.args.wishes.now c.args.order.now c.loop-from.from c.loop-from.number c.loop-from.numbers.items
    c.loop-from.begins.items c.requires.index c.loop-from.invariant c.loop-from-test.false
