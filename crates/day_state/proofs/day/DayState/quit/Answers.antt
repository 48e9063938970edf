use Rattle.std.proofs.Common.{◌∙◌}
use Rattle.day_state.proofs.Along.{quit_all_is}
use Rattle.day_state.proofs.Answering.{whole_quit}
use Rattle.day_state.proofs.day.DayState.quit.Goals as goal

pub invariant_of-self : goal.invariant_of-self
invariant_of-self c = rw (c.change_own.ensures.state ∙ quit_all_is c.self.inside.live c.args.candidate c.args.stamp)
    (whole_quit c.self.inside.index.value c.self.inside.live c.args.candidate c.args.stamp c.self.invariant)

pub returns : goal.returns
returns c = rw (← c.self.view_is) (c.change_own.ensures.state ∙ quit_all_is c.self.inside.live c.args.candidate
    c.args.stamp)
