use Rattle.std.proofs.Common.{ap, ◌∙◌, ◌-◌}
use Rattle.std.specs.Prelude.{slice_set}
use Rattle.bar_fixpoint.proofs.OneFall.{rank_from_one, falls_below, rank_is}
use Rattle.bar_fixpoint.proofs.engine.lower_over.Goals as goal

pub overflow_sub-rank : goal.overflow_sub-rank
overflow_sub-rank g c =
    let f = g.F.Falling in
    rank_from_one (f.system c.args.system.now) (g.met.F.Falling.lawful c.args.system.now)
    (f.bars c.args.system.now) c.args.school
    c.requires.under c.requires.over _ _ c.in_ok-over.ensures c.in-Some.is

pub lower-requires-clause-lower : goal.lower-requires-clause-lower
lower-requires-clause-lower g c =
    let f = g.F.Falling in
    falls_below (f.system c.args.system.now) (g.met.F.Falling.lawful c.args.system.now)
    (f.bars c.args.system.now) c.args.school
    c.requires.under c.requires.over _ _ c.in_ok-over.ensures c.in-Some.is

pub returns-clause-bars : goal.returns-clause-bars
returns-clause-bars g c =
    let f = g.F.Falling in
    c.lower.ensures.bars
    ∙ ap (λ r. slice_set (f.bars c.args.system.now) c.args.school (r - 1))
    (rank_is (f.system c.args.system.now) (g.met.F.Falling.lawful c.args.system.now)
    (f.bars c.args.system.now) c.args.school
    c.requires.under c.requires.over _ _ c.in_ok-over.ensures c.in-Some.is)
