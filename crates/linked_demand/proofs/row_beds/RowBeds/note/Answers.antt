use Rattle.std.proofs.Common.{◌≡◌, ◌∙◌, ap, arith, false, subst, sym, true}
use Rattle.linked_demand.specs.Housed.{noted}
use Rattle.linked_demand.specs.Rungs.{rungs_of, BedRow, IsFirstOf}
use Rattle.linked_demand.proofs.Rungs.{noted_none}
use Rattle.linked_demand.proofs.RowBeds.{beds_set, count_fits, note_read, note_set, note_twice}
use Rattle.linked_demand.proofs.row_beds.RowBeds.note.Goals as goal

pub overflow_add-self : goal.overflow_add-self
overflow_add-self c =
    let P = λ (b : BedRow). IsFirstOf b c.args.rank c.in-Some.at in
    let here = subst P (sym c.self.view_is) c.in-Some.ensures.found in
    let bare = note_read c.self.invariant c.args.rank c.in-Some.at here c.index.result.now c.index.ensures false
    c.if-not-index.true in
    omega (arith, count_fits c.self.invariant c.args.rank c.in-Some.at here bare, c.self.told)

pub invariant_of-self : goal.invariant_of-self
invariant_of-self c =
    let P = λ (b : BedRow). IsFirstOf b c.args.rank c.in-Some.at in
    let here = subst P (sym c.self.view_is) c.in-Some.ensures.found in
    beds_set c.self.invariant c.args.rank c.in-Some.at here
    (note_read c.self.invariant c.args.rank c.in-Some.at here c.index.result.now c.index.ensures false
    c.if-not-index.true)

pub returns-then-not-index-clause-rungs : goal.returns-then-not-index-clause-rungs
returns-then-not-index-clause-rungs c =
    let P = λ (b : BedRow). IsFirstOf b c.args.rank c.in-Some.at in
    note_set c.self.invariant c.args.rank c.in-Some.at (subst P (sym c.self.view_is) c.in-Some.ensures.found)
    ∙ ap (λ (b : BedRow). noted c.args.rank (rungs_of b)) c.self.view_is

pub returns-else-not-index-clause-rungs : goal.returns-else-not-index-clause-rungs
returns-else-not-index-clause-rungs c =
    let P = λ (b : BedRow). IsFirstOf b c.args.rank c.in-Some.at in
    let here = subst P (sym c.self.view_is) c.in-Some.ensures.found in
    let Q = λ (b : BedRow). rungs_of b ≡ noted c.args.rank (rungs_of b) in
    subst Q c.self.view_is (note_twice c.self.invariant c.args.rank c.in-Some.at here
    (note_read c.self.invariant c.args.rank c.in-Some.at here c.index.result.now c.index.ensures true
    c.if-not-index.false))

pub returns-in_default-clause-rungs : goal.returns-in_default-clause-rungs
returns-in_default-clause-rungs c =
    sym (noted_none c.args.rank (rungs_of c.args.self.now) c.in_default.ensures.none)
