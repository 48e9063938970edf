use Rattle.std.proofs.Common.{List, Vec, ◌++◌, ap, get_or, sym, ◌∙◌}
use Rattle.std.proofs.lemmas.Bool.{and_parts}
use Rattle.std.specs.declared.alloc.Global.{Global}
use Rattle.proposals.specs.declared.demands.Demand.{Demand}
use Rattle.linked_demand.specs.Demand.{firsts, is_proposed_at}
use Rattle.linked_demand.specs.Rows.{needs_bed, row_in}
use Rattle.linked_demand.proofs.RoundFalls.{item_open}
use Rattle.linked_demand.proofs.RowSteps.{firsts_all, firsts_more, firsts_same, not_above, not_demanded}
use Rattle.linked_demand.proofs.over.demands_in.Goals as goal
use Rattle.linked_demand.proofs.over.demands_in.Goals.{then-named-item+then-demands+in_ok-push, else-named-item}
use Rattle.linked_demand.proofs.over.demands_in.Goals.{else-named-item-via-then-named-item+else-demands}
use Rattle.linked_demand.proofs.over.demands_in.Goals.{else-named-item-via-else-named-item}

pub demands-requires-clause-open : goal.demands-requires-clause-open
demands-requires-clause-open c =
    item_open c.args.links.now c.args.front.now c.requires.items c.loop-item.item-index c.loop-item-test.true _

pub loop-item-init : goal.loop-item-init
loop-item-init c =
    ap (λ (ds : List Demand). ds
    ++ firsts (is_proposed_at c.args.links.now) 0 (row_in c.args.links.now.state c.args.front.now))
    (sym c.new-demands.ensures.items)

pub loop-item-preserved : goal.loop-item-preserved
loop-item-preserved c =
    let p = is_proposed_at c.args.links.now in
    let q = needs_bed c.args.links.now.state in
    let front = c.args.front.now in
    let i = c.loop-item.item-index in
    let lt = c.loop-item-test.true in
    let last = c.loop-item.named in
    let found = c.loop-item.demands.items in
    elim c.if-named-item.branch [
      | then-named-item+then-demands+in_ok-push w ↦
          let both = and_parts (q (get_or front i _)) (p (get_or front i _).wish)
          (sym w.demands.ensures ∙ w.if-demands.true) in
          firsts_more p q front i _ lt last found c.if-named-item.demands.items c.if-named-item.named
          w.if-named-item.true both.0 both.1
          (ap (λ (v : Vec Demand Global). v.items) w.demands-is ∙ w.in_ok-push.ensures.items) w.named-is
          c.loop-item.invariant
      | else-named-item w ↦
          firsts_same p q front i _ lt last found c.if-named-item.demands.items c.if-named-item.named
          (ap (λ (v : Vec Demand Global). v.items) w.demands-is) w.named-is
          (elim w.else-named-item.branch [
            | else-named-item-via-then-named-item+else-demands y ↦
                not_demanded p q front i _ lt last (sym y.demands.ensures ∙ y.if-demands.false)
            | else-named-item-via-else-named-item y ↦ not_above p q front i _ lt last y.if-named-item.false
          ]) c.loop-item.invariant
    ]

pub returns : goal.returns
returns c =
    firsts_all (is_proposed_at c.args.links.now) (needs_bed c.args.links.now.state) c.args.front.now
    c.loop-item.item-index c.loop-item.named c.loop-item.demands.items c.loop-item-test.false c.loop-item.invariant
