use Rattle.day_state.specs.Whole.{IsDayState}
use Rattle.day_state.proofs.FittingLists.{ok_own_fit, ok_apart}
use Rattle.day_state.proofs.day.DayState.apply_day.Goals as goal

pub returns-clause-own_fit : goal.returns-clause-own_fit
returns-clause-own_fit c =
    let whole : IsDayState c.self.inside.index.value c.args.self.now = rw c.self.view_is at c.self.invariant in
    ok_own_fit c.args.self.now c.args.stamp c.args.answers.now c.apply_front.result whole.long
    c.apply_front.ensures.result

pub returns-clause-apart : goal.returns-clause-apart
returns-clause-apart c =
    let whole : IsDayState c.self.inside.index.value c.args.self.now = rw c.self.view_is at c.self.invariant in
    ok_apart c.args.self.now c.apply_front.new.self c.args.stamp c.args.answers.now c.apply_front.result whole.long
    c.apply_front.ensures.result c.apply_front.ensures.state
