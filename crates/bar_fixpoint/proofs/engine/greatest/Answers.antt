use Rattle.admit_core.proofs.Plain.{on_err}
use Rattle.bar_fixpoint.proofs.Ending.{greatest_there, run_kept, stops_there}
use Rattle.bar_fixpoint.proofs.engine.greatest.Goals as goal

pub returns-in_err-lower_all-clause-stops : goal.returns-in_err-lower_all-clause-stops
returns-in_err-lower_all-clause-stops g c =
    let f = g.F.Falling in
    on_err _ (stops_there (f.system c.args.system.now) (g.met.F.Falling.lawful c.args.system.now) _ _ _ _
    c.in_err-lower_all.ensures.steps.by_then)

pub returns-clause-greatest : goal.returns-clause-greatest
returns-clause-greatest g c =
    let f = g.F.Falling in
    greatest_there (f.system c.args.system.now) (g.met.F.Falling.lawful c.args.system.now) _ _ _ _
    c.in_ok-lower_all.ensures.fallen.by

pub returns-clause-run : goal.returns-clause-run
returns-clause-run g c =
    let f = g.F.Falling in
    run_kept (f.system c.args.system.now) _ _ _ _ _ c.in_ok-lower_all.ensures.fallen
