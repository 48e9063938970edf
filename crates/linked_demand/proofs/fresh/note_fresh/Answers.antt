use Rattle.std.proofs.Common.{◌≡◌, ◌<◌, ◌&&◌, true, false, arith, refl, take, get_or, sym, ◌∙◌}
use Rattle.std.proofs.lemmas.List.Sums.{count_by_more_yes, count_by_more_no}
use Rattle.std.proofs.Common.{length}
use Rattle.admit_core.specs.Lists.{is_among}
use Rattle.linked_demand.specs.Marks.{is_fresh}
use Rattle.linked_demand.specs.Opens.{all_exempt}
use Rattle.linked_demand.proofs.Marking.{marks_nothing, marks_more, marks_left}
use Rattle.linked_demand.proofs.fresh.note_fresh.Goals as goal
use Rattle.linked_demand.proofs.fresh.note_fresh.Goals.{then-is_fresh, else-is_fresh}

pub loop-wish-init : goal.loop-wish-init
loop-wish-init g c =
    record {
      steps = omega arith;
      marked = marks_nothing c.args.state.now
          (λ x. is_among x.0 (take 0 c.args.claim.now) && is_fresh c.args.state.now c.args.bars.now
          c.args.opens.now (all_exempt c.args.state.now c.args.notes.now.called_by_limit) x.0) c.args.marked.now
          (λ k e at. refl);
    }

pub loop-wish-preserved : goal.loop-wish-preserved
loop-wish-preserved g c =
    let s = c.args.state.now in
    let claim = c.args.claim.now in
    let q = is_fresh s c.args.bars.now c.args.opens.now
    (all_exempt c.args.state.now c.args.notes.now.called_by_limit) in
    let i = c.loop-wish.wish-index in
    let lt : i < length claim = c.loop-wish-test.true in
    elim c.if-is_fresh.branch [
      | then-is_fresh w ↦
          let passes : q (get_or claim i 0) ≡ true = sym c.is_fresh.ensures ∙ w.if-is_fresh.true in
          rw (w.steps-is, w.marked-is) (record {
            steps = omega (arith, w.tick.ensures, c.loop-wish.invariant.steps, count_by_more_yes q claim i 0 lt passes);
            marked = marks_more s claim q i lt c.args.marked.now c.loop-wish.marked
                c.loop-wish.invariant.marked w.set.new.self w.set.ensures;
          })
      | else-is_fresh w ↦
          let fails : q (get_or claim i 0) ≡ false = sym c.is_fresh.ensures ∙ w.if-is_fresh.false in
          rw (w.steps-is, w.marked-is) (record {
            steps = omega (arith, c.loop-wish.invariant.steps, count_by_more_no q claim i 0 lt fails);
            marked = marks_left s claim q i lt c.args.marked.now c.loop-wish.marked c.loop-wish.invariant.marked fails;
          })
    ]
