use Rattle.bar_fixpoint.proofs.Idle.{none_over}
use Rattle.bar_fixpoint.proofs.OneFall.{overfilled_from_pick}
use Rattle.bar_fixpoint.proofs.engine.fall_once.Goals as goal

pub lower_over-requires-clause-over : goal.lower_over-requires-clause-over
lower_over-requires-clause-over g c =
    let f = g.F.Falling in
    let picked = rw c.in-Some.is at c.in_ok-picked.ensures.picked in
    overfilled_from_pick (f.system c.args.system.now) _ (f.bars c.args.system.now) _ _ _ picked

pub returns-in_err-lower_over-in-Some-clause-always : goal.returns-in_err-lower_over-in-Some-clause-always
returns-in_err-lower_over-in-Some-clause-always g c =
    let f = g.F.Falling in
    let picked = rw c.in-Some.is at c.in_ok-picked.ensures.picked in
    let sys = f.system c.args.system.now in
    let bars = f.bars c.args.system.now in
    λ lent none. absurd (none_over sys (g.met.F.Falling.lawful c.args.system.now) bars _ none
    (overfilled_from_pick sys _ bars _ _ _ picked))
