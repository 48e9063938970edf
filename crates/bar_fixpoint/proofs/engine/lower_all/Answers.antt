use Rattle.std.proofs.Common.{◌∙◌, ◌∷◌, ◌++◌, [], refl, arith}
use Rattle.admit_core.specs.Falls.{fall_of}
use Rattle.bar_fixpoint.proofs.Idle.{answered, none_fell}
use Rattle.bar_fixpoint.proofs.SoFar.{none_so_far, under_now, counted_more, early_now, ended_now, more_now}
use Rattle.bar_fixpoint.proofs.SoFar.{fallen_now, smaller_now}
use Rattle.bar_fixpoint.proofs.engine.lower_all.Goals as goal

pub fall_once-requires : goal.fall_once-requires
fall_once-requires g c =
    let f = g.F.Falling in
    let now = c.loop-school.invariant in
    under_now (f.system c.args.system.now) (g.met.F.Falling.lawful c.args.system.now) _ _
    (f.system c.loop-school.system) now.unchanged.system
    _ _ _ now.so_far.1

pub loop-school-init : goal.loop-school-init
loop-school-init g c =
    let f = g.F.Falling in
    record {
      idle = λ none. refl;
      unchanged = record { system = refl; offers = refl; choice = refl };
      so_far = (
        [],
        none_so_far (f.system c.args.system.now) (g.met.F.Falling.lawful c.args.system.now) _ _ _
            c.requires.ceilings,
      );
      same_cost = refl;
      counted = omega arith;
      given = c.requires.none;
    }

pub loop-school-smaller : goal.loop-school-smaller
loop-school-smaller g c =
    let f = g.F.Falling in
    let now = c.loop-school.invariant in
    let fell = rw c.in-Some.is at c.in_ok-_school.ensures.step in
    smaller_now (f.system c.args.system.now) (g.met.F.Falling.lawful c.args.system.now) _ _
    (f.system c.loop-school.system) now.unchanged.system
    _ _ _ _ _ _ _ now.unchanged.choice now.so_far.1 fell

pub loop-school-preserved : goal.loop-school-preserved
loop-school-preserved g c =
    let f = g.F.Falling in
    let now = c.loop-school.invariant in
    let fell = rw c.in-Some.is at c.in_ok-_school.ensures.step in
    let given = rw c.in-Some.is at c.in_ok-_school.ensures.kept in
    let counted = rw c.in-Some.is at c.in_ok-_school.ensures.steps.counted in
    let after = c.fall_once.ensures.unchanged in
    let fall = fall_of (f.system c.loop-school.system) (f.bars c.loop-school.system) c.in-Some._school in
    record {
      idle = λ none. absurd (none_fell f.system f.bars g.met.F.Falling.lawful c.args.system.now c.loop-school.system
          now.idle _ _ _ _ _ fell none);
      unchanged = record {
        system = after.system ∙ now.unchanged.system;
        offers = after.offers ∙ now.unchanged.offers;
        choice = after.choice ∙ now.unchanged.choice;
      };
      so_far = (
        now.so_far.0 ++ fall ∷ [],
        more_now (f.system c.args.system.now) (g.met.F.Falling.lawful c.args.system.now) _ _
            (f.system c.loop-school.system) now.unchanged.system
            _ _ _ _ fall _ _ now.unchanged.choice now.so_far.1 fell,
      );
      same_cost = c.fall_once.ensures.steps.same_cost ∙ now.same_cost;
      counted = counted_more (f.cost c.args.system.now) (f.cost c.loop-school.system) _ _ now.so_far.0 fall _ _ _ _ _
          now.same_cost c.requires.ceilings now.so_far.1.bars_fell fell.bars_fell now.counted counted;
      given = given now.so_far.0 now.given;
    }

pub returns-in_err-_school-clause-steps : goal.returns-in_err-_school-clause-steps
returns-in_err-_school-clause-steps g c =
    let f = g.F.Falling in
    let now = c.loop-school.invariant in
    early_now (f.system c.args.system.now) (g.met.F.Falling.lawful c.args.system.now) _ _
    (f.system c.loop-school.system) now.unchanged.system
    _ now.so_far.0 _ _ _ _ _ now.unchanged.choice now.so_far.1 c.in_err-_school.ensures.stopped
    (omega (arith, now.counted, c.in_err-_school.ensures.steps.counted))

pub returns-clause-steps : goal.returns-clause-steps
returns-clause-steps g c =
    let f = g.F.Falling in
    let now = c.loop-school.invariant in
    let settled = rw c.in_default.is at c.in_ok-_school.ensures.step in
    let counted = rw c.in_default.is at c.in_ok-_school.ensures.steps.counted in
    ended_now (f.system c.args.system.now) (g.met.F.Falling.lawful c.args.system.now) _ _
    (f.system c.loop-school.system) now.unchanged.system
    now.so_far.0 _ _ _ _ _ now.so_far.1 settled (omega (arith, now.counted, counted))

pub returns-clause-fallen : goal.returns-clause-fallen
returns-clause-fallen g c =
    let f = g.F.Falling in
    let now = c.loop-school.invariant in
    let settled = rw c.in_default.is at c.in_ok-_school.ensures.step in
    let given = rw c.in_default.is at c.in_ok-_school.ensures.kept in
    fallen_now (f.system c.args.system.now) (g.met.F.Falling.lawful c.args.system.now) _ _
    (f.system c.loop-school.system) now.unchanged.system
    _ _ _ _ _ _ now.so_far.1 settled (given now.so_far.0 now.given)

pub returns-in_err-_school-clause-always : goal.returns-in_err-_school-clause-always
returns-in_err-_school-clause-always g c =
    let f = g.F.Falling in
    λ lent none. absurd (answered f.system f.bars g.met.F.Falling.lawful c.args.system.now c.loop-school.system
    c.loop-school.invariant.idle f.lends c.in_err-_school.ensures.always lent none)
