use Rattle.std.proofs.Common.{List, [], ◌∷◌, ◌++◌, map, filter, take, sym, ◌∙◌, ap, arith}
use Rattle.proposals.specs.declared.demands.Demand.{Demand}
use Rattle.demand.specs.Needs.{needs_bed, demand_in}
use Rattle.proposals.proofs.Picking.{picked, passed_over}
use Rattle.demand.proofs.Listed.{makes_some}
use Rattle.demand.proofs.demands.demands_by_place.Goals as goal
use Rattle.demand.proofs.demands.demands_by_place.Goals.{then-needs_bed+in_ok-push, else-needs_bed}

pub loop-place-preserved : goal.loop-place-preserved
loop-place-preserved c =
    let ws = c.args.state.now.dossier.wishes in
    let needs = needs_bed c.args.state.now c.args.school in
    let places = c.args.places.now in
    let i = c.loop-place.place-index in
    let so_far = map (demand_in ws) (filter needs (take i places)) in
    elim c.if-needs_bed.branch [
      | then-needs_bed+in_ok-push w ↦
          rw w.demands-is
          (w.in_ok-push.ensures.items
          ∙ ap (λ (xs : List Demand). xs ++ w.demand_at.result ∷ []) c.loop-place.invariant
          ∙ ap (λ (d : Demand). so_far ++ d ∷ []) w.demand_at.ensures
          ∙ sym (picked needs (demand_in ws) places i (omega arith) (sym c.needs_bed.ensures ∙ w.if-needs_bed.true)))
      | else-needs_bed w ↦
          rw w.demands-is (c.loop-place.invariant ∙ sym (passed_over needs (demand_in ws) places i (omega arith)
          (sym c.needs_bed.ensures ∙ w.if-needs_bed.false)))
    ]

pub returns-in_err-push-clause-always : goal.returns-in_err-push-clause-always
returns-in_err-push-clause-always c =
    λ none.
    absurd (makes_some (needs_bed c.args.state.now c.args.school) (demand_in c.args.state.now.dossier.wishes)
    c.args.places.now c.loop-place.place-index c.loop-place-test.true
    (sym c.needs_bed.ensures ∙ c.if-needs_bed.true) none)
