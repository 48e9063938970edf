use Rattle.std.proofs.Common.{List, arith, length, refl, sym, subst, ◌∙◌, ap}
use Rattle.linked_demand.specs.Housed.{IsBare}
use Rattle.linked_demand.specs.Rungs.{Rung, BedRow, rungs_of}
use Rattle.linked_demand.proofs.BareRows.{bare_all, bare_more, bare_none, bare_row, front_up}
use Rattle.linked_demand.proofs.housing.bare_rows.Goals as goal

pub loop-school-init : goal.loop-school-init
loop-school-init c = bare_none c.args.boarders.now c.args.ends.now c.in_ok-rows.rows.items c.in_ok-rows.ensures.items

pub along-requires : goal.along-requires
along-requires c =
    front_up c.args.boarders.now c.args.ends.now c.loop-school.school c.front_in-front.result.now
    c.front_in-front.ensures c.requires.rows

pub loop-school-preserved : goal.loop-school-preserved
loop-school-preserved c =
    let boarders = c.args.boarders.now in
    let ends = c.args.ends.now in
    let i = c.loop-school.school in
    let front = c.front_in-front.result.now in
    let rises = front_up boarders ends i front c.front_in-front.ensures c.requires.rows in
    let rungs = c.of.ensures ∙ ap (λ (b : BedRow). rungs_of b) c.in_ok-row.ensures in
    let Bare = λ (xs : List Rung). IsBare front xs in
    bare_more boarders ends i c.loop-school.rows.items c.push.new.self.items front c.of.result c.loop-school.invariant
    c.front_in-front.ensures
    (subst Bare (sym rungs) (bare_row front rises (length front) (length front) refl))
    c.in_ok-push.ensures.items

pub returns : goal.returns
returns c =
    bare_all c.args.boarders.now c.args.ends.now c.loop-school.school c.loop-school.rows.items
    (omega (arith, c.loop-school-test.false, c.loop-school.auto.school-end)) c.loop-school.invariant
