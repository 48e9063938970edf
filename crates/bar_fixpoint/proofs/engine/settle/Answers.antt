use Rattle.bar_fixpoint.proofs.Ending.{greatest_on, stops_on}
use Rattle.bar_fixpoint.proofs.engine.settle.Goals as goal

pub returns-clause-greatest : goal.returns-clause-greatest
returns-clause-greatest g c =
    let f = g.F.Falling in
    greatest_on (f.system c.args.system.now) (g.met.F.Falling.lawful c.args.system.now) _ _ _ _ c.lower_all.result _
    c.lower_all.ensures.fallen

pub returns-clause-stops : goal.returns-clause-stops
returns-clause-stops g c =
    let f = g.F.Falling in
    stops_on (f.system c.args.system.now) (g.met.F.Falling.lawful c.args.system.now) _ _ _ _ c.lower_all.result
    c.lower_all.ensures.steps.by_then
