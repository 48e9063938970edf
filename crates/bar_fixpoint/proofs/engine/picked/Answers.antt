use Rattle.std.proofs.Common.{◌∙◌, subst}
use Rattle.std.specs.Prelude.{IsSome}
use Rattle.std.proofs.lemmas.Bool.{false≢true}
use Rattle.bar_fixpoint.proofs.OneFall.{one_picked, none_picked}
use Rattle.bar_fixpoint.proofs.engine.picked.Goals as goal

pub returns-in-Some-clause-picked : goal.returns-in-Some-clause-picked
returns-in-Some-clause-picked g c =
    let f = g.F.Falling in
    let all = rw c.in-Some.is at c.listed.ensures.places in
    let e = c.pick_any.ensures in
    one_picked (f.system c.args.system.now) _
    (f.bars c.args.system.now) _ _ _ c.pick_any.result all e.member e.chosen e.told

pub returns-in-Some-clause-settled : goal.returns-in-Some-clause-settled
returns-in-Some-clause-settled g c =
    let f = g.F.Falling in
    let all = rw c.in-Some.is at c.listed.ensures.places in
    none_picked (f.system c.args.system.now) (f.bars c.args.system.now) _ c.pick_any.result all c.pick_any.ensures.none

pub returns-clause-picked : goal.returns-clause-picked
returns-clause-picked g c =
    let f = g.F.Falling in
    let all = c.as_slice.ensures.value ∙ c.in_ok-places.ensures in
    let e = c.pick_any-2.ensures in
    one_picked (f.system c.args.system.now) _
    (f.bars c.args.system.now) _ _ _ c.pick_any-2.result all e.member e.chosen e.told

pub returns-clause-settled : goal.returns-clause-settled
returns-clause-settled g c =
    let f = g.F.Falling in
    let all = c.as_slice.ensures.value ∙ c.in_ok-places.ensures in
    none_picked (f.system c.args.system.now)
    (f.bars c.args.system.now) _ c.pick_any-2.result all c.pick_any-2.ensures.none

pub returns-in_err-places-clause-always : goal.returns-in_err-places-clause-always
returns-in_err-places-clause-always g c =
    λ lent none. absurd (false≢true (subst IsSome c.in_default.is (c.listed.ensures.lent lent)))
