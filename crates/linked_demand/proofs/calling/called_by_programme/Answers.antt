use Rattle.std.proofs.Common.{ℕ, ◌+◌, List, length, sym, ◌∙◌, ap, arith, map, subst}
use Rattle.admit_core.specs.DossierRows.{DossierRows}
use Rattle.admit_core.specs.Validity.{IsValid}
use Rattle.linked_demand.specs.Called.{called_all, called_by}
use Rattle.linked_demand.specs.CalledWishes.{called_wish_at, called_wishes_for}
use Rattle.linked_demand.specs.declared.wishing.Application.{Application}
use Rattle.linked_demand.specs.Claims.{AreApplicationsIn}
use Rattle.linked_demand.specs.Keyed.{AreEmpty}
use Rattle.linked_demand.specs.Seats.{applies_at}
use Rattle.linked_demand.proofs.CalledRows.{groups_more, group_in, row_called}
use Rattle.linked_demand.proofs.ClaimSpans.{applications_later, applications_taken}
use Rattle.linked_demand.proofs.Dealing.{puts_begun, puts_on}
use Rattle.linked_demand.proofs.calling.called_by_programme.Goals as goal

pub call_group-requires-clause-wishes : goal.call_group-requires-clause-wishes
call_group-requires-clause-wishes c =
    let P = λ (xs : List Application). AreApplicationsIn c.args.state.now.dossier c.loop-group.group xs in
    subst P (sym c.deref-in-loop-group-2.ensures.value)
    (applications_taken c.args.state.now.dossier c.loop-group.group c.loop-group.rows.items c.replace-wishes.result _
    (omega (arith, c.loop-group-test.true, c.group_count-group-end.ensures))
    (c.replace-wishes.ensures.value ∙ c.index_mut.ensures.value) c.loop-group.invariant.of_groups)

pub loop-group-preserved : goal.loop-group-preserved
loop-group-preserved c =
    let d = c.args.state.now.dossier in
    let orders = c.args.orders.now.orders in
    let g = c.loop-group.group in
    record {
      called = puts_on (called_wish_at d orders) (applies_at d) (called_all d orders g) (called_by d orders g)
          (called_all d orders (g + 1)) c.in_ok-called.called.items c.loop-group.called.items
          c.call_group.new.called.items (groups_more (called_by d orders) g)
          c.loop-group.invariant.called c.in_ok-call_group.ensures;
      of_groups = applications_later d g c.loop-group.rows.items c.replace-wishes.new.dest
          c.loop-group.invariant.of_groups;
    }

pub returns : goal.returns
returns c =
    let d = c.args.state.now.dossier in
    let orders = c.args.orders.now.orders in
    let n = c.loop-group.group in
    let P : DossierRows → Type 0 = IsValid in
    let valid = subst P (c.dossier.view_is ∙ c.dossier-dossier.ensures) c.dossier.invariant in
    let Q = λ (count : ℕ). AreEmpty count c.in_ok-called.called.items in
    puts_begun (called_wish_at d orders) (applies_at d) (called_all d orders n) (length d.programmes)
    (called_wishes_for d orders) c.in_ok-called.called.items c.loop-group.called.items
    (subst Q (omega (arith, c.len.ensures, c.in_ok-counts.ensures.one_each)) c.in_ok-called.ensures)
    c.loop-group.invariant.called
    (λ p lt. ap (map (called_wish_at d orders)) (row_called d orders n p
    (omega (arith, group_in d valid p lt, c.loop-group-test.false, c.group_count-group-end.ensures))))
