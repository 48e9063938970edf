use Rattle.std.proofs.Common.{refl}
use Rattle.std.specs.Prelude.{slice_index_or}
use Rattle.day_state.proofs.Answering.{applied_more, refused_here, ok_fits, err_unfit, blank_answer}
use Rattle.day_state.proofs.day.DayState.apply_front.Goals as goal

pub returns-in-Err-clause-result : goal.returns-in-Err-clause-result
returns-in-Err-clause-result c =
    let unfit = err_unfit c.loop-index.self (slice_index_or c.args.answers.now c.loop-index.index blank_answer)
    c.in-Err.unfit (rw c.in-Err.is at c.apply.ensures.result) in
    let here = refused_here c.args.self.now c.loop-index.self c.args.stamp c.args.answers.now c.loop-index.index
    blank_answer c.loop-index.invariant c.loop-index-test.true unfit.0 in
    rw (here.0, unfit.1) refl

pub returns-in-Err-clause-state : goal.returns-in-Err-clause-state
returns-in-Err-clause-state c =
    let unfit = err_unfit c.loop-index.self (slice_index_or c.args.answers.now c.loop-index.index blank_answer)
    c.in-Err.unfit (rw c.in-Err.is at c.apply.ensures.result) in
    let here = refused_here c.args.self.now c.loop-index.self c.args.stamp c.args.answers.now c.loop-index.index
    blank_answer c.loop-index.invariant c.loop-index-test.true unfit.0 in
    rw (c.apply.ensures.state, unfit.0) here.1

pub loop-index-preserved : goal.loop-index-preserved
loop-index-preserved c =
    applied_more c.args.self.now c.loop-index.self c.apply.new.self c.args.stamp c.args.answers.now
    c.loop-index.index blank_answer c.loop-index.invariant c.loop-index-test.true
    (ok_fits c.loop-index.self (slice_index_or c.args.answers.now c.loop-index.index blank_answer)
    c.in_default.field-0 (rw c.in_default.is at c.apply.ensures.result)) c.apply.ensures.state
