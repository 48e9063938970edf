use Rattle.std.proofs.Common.{◌≡◌, ◌∙◌, ◌-◌, Some, option_map, sym, arith, subst}
use Rattle.std.specs.Prelude.{◌==◌}
use Rattle.std.proofs.lemmas.Bool.{and_parts, eqb-true}
use Rattle.admit_core.specs.Chains.{line_fault}
use Rattle.admit_core.specs.declared.chain.CheckReason.{CheckReason}
use Rattle.admit_core.specs.declared.chain.CheckReason.TheVariants.{NotOver}
use Rattle.linked_demand.specs.Rounds.{Round}
use Rattle.certificate.specs.PassTests.{round_of}
use Rattle.certificate.proofs.Testing.{are_shown, bar_seen, looked_up, over_below, over_from_one, school_over}
use Rattle.certificate.proofs.Testing.{passes_line, stops_not_over, stops_unknown, stops_wrong_bar}
use Rattle.certificate.proofs.Testing.{stops_wrong_wishes}
use Rattle.certificate.proofs.pass_test.PassTest.check_line.Goals as goal

pub returns-in_default-clause-found : goal.returns-in_default-clause-found
returns-in_default-clause-found c =
    let r = c.self.inside.round in
    let s = c.self.inside.state.now in
    let line = c.args.line.now in
    rw c.rejected_at.ensures (subst (λ (x : Round). option_map (λ (reason : CheckReason). (line.row, reason))
    (line_fault x.state x.orders x.ceilings x.bars line) ≡ Some (line.row, NotOver)) c.self.view_is
    (stops_unknown (round_of s r) c.self.inside.index.now line c.self.invariant.index
    c.self.invariant.ceilings (sym c.school_place.ensures ∙ c.in_default.is)))

pub returns-in_default-first_over-clause-found : goal.returns-in_default-first_over-clause-found
returns-in_default-first_over-clause-found c =
    rw c.rejected_at-in_default-first_over.ensures (stops_not_over
    (looked_up c.self.inside.round c.self.view_is c.args.line.now c.self.invariant
    (sym c.school_place.ensures ∙ c.in-Some.is)
    (sym c.in_default-first_over.is ∙ c.first_over.ensures)))

pub ranks_up_to-requires : goal.ranks_up_to-requires
ranks_up_to-requires c =
    (looked_up c.self.inside.round c.self.view_is c.args.line.now c.self.invariant
    (sym c.school_place.ensures ∙ c.in-Some.is)
    (sym c.in-Some-first_over.is ∙ c.first_over.ensures)).lt

pub returns-in_err-ranks-clause-over : goal.returns-in_err-ranks-clause-over
returns-in_err-ranks-clause-over c =
    let seen = looked_up c.self.inside.round c.self.view_is c.args.line.now c.self.invariant
    (sym c.school_place.ensures ∙ c.in-Some.is)
    (sym c.in-Some-first_over.is ∙ c.first_over.ensures) in
    λ e. school_over seen

pub returns-then-not-show_ranks-clause-found : goal.returns-then-not-show_ranks-clause-found
returns-then-not-show_ranks-clause-found c =
    let line = c.args.line.now in
    let seen = looked_up c.self.inside.round c.self.view_is line c.self.invariant
    (sym c.school_place.ensures ∙ c.in-Some.is)
    (sym c.in-Some-first_over.is ∙ c.first_over.ensures) in
    let shown = are_shown c.self.inside.round c.self.view_is line c.in-Some.school c.in-Some-first_over.over
    c.marks.ensures.marks c.marks.ensures.one_each (c.deref.ensures.value ∙ c.in_ok-ranks.ensures)
    c.as_slice.ensures c.show_ranks.ensures in
    rw c.rejected_at-then-not-show_ranks.ensures (stops_wrong_wishes seen shown c.if-not-show_ranks.true)

pub overflow_sub-over : goal.overflow_sub-over
overflow_sub-over c =
    over_from_one (looked_up c.self.inside.round c.self.view_is c.args.line.now c.self.invariant
    (sym c.school_place.ensures ∙ c.in-Some.is) (sym c.in-Some-first_over.is ∙ c.first_over.ensures))

pub returns-then-not-tells_bars-clause-found : goal.returns-then-not-tells_bars-clause-found
returns-then-not-tells_bars-clause-found c =
    let line = c.args.line.now in
    let seen = looked_up c.self.inside.round c.self.view_is line c.self.invariant
    (sym c.school_place.ensures ∙ c.in-Some.is)
    (sym c.in-Some-first_over.is ∙ c.first_over.ensures) in
    let shown = are_shown c.self.inside.round c.self.view_is line c.in-Some.school c.in-Some-first_over.over
    c.marks.ensures.marks c.marks.ensures.one_each (c.deref.ensures.value ∙ c.in_ok-ranks.ensures)
    c.as_slice.ensures c.show_ranks.ensures in
    rw c.rejected_at-then-not-tells_bars.ensures (stops_wrong_bar seen shown
    (bar_seen c.self.inside.round c.self.view_is c.in-Some.school _ c.bar-from.ensures)
    c.tells_bars.ensures c.if-not-show_ranks.false c.if-not-tells_bars.true)

pub returns-clause-found : goal.returns-clause-found
returns-clause-found c =
    let line = c.args.line.now in
    let seen = looked_up c.self.inside.round c.self.view_is line c.self.invariant
    (sym c.school_place.ensures ∙ c.in-Some.is)
    (sym c.in-Some-first_over.is ∙ c.first_over.ensures) in
    let shown = are_shown c.self.inside.round c.self.view_is line c.in-Some.school c.in-Some-first_over.over
    c.marks.ensures.marks c.marks.ensures.one_each (c.deref.ensures.value ∙ c.in_ok-ranks.ensures)
    c.as_slice.ensures c.show_ranks.ensures in
    passes_line seen shown (bar_seen c.self.inside.round c.self.view_is c.in-Some.school _ c.bar-from.ensures)
    c.tells_bars.ensures
    c.if-not-show_ranks.false c.if-not-tells_bars.false

pub returns-clause-school : goal.returns-clause-school
returns-clause-school c =
    sym (looked_up c.self.inside.round c.self.view_is c.args.line.now c.self.invariant
    (sym c.school_place.ensures ∙ c.in-Some.is)
    (sym c.in-Some-first_over.is ∙ c.first_over.ensures)).is

pub returns-clause-within : goal.returns-clause-within
returns-clause-within c =
    (looked_up c.self.inside.round c.self.view_is c.args.line.now c.self.invariant
    (sym c.school_place.ensures ∙ c.in-Some.is)
    (sym c.in-Some-first_over.is ∙ c.first_over.ensures)).lt

pub returns-clause-falls : goal.returns-clause-falls
returns-clause-falls c =
    let over = c.in-Some-first_over.over in
    let line = c.args.line.now in
    let seen = looked_up c.self.inside.round c.self.view_is line c.self.invariant
    (sym c.school_place.ensures ∙ c.in-Some.is)
    (sym c.in-Some-first_over.is ∙ c.first_over.ensures) in
    let told = and_parts (line.from == c.bar-from.result) (line.to == over - 1)
    (sym c.tells_bars.ensures ∙ c.if-not-tells_bars.false) in
    omega (arith, eqb-true line.to (over - 1) told.1, over_below seen)
