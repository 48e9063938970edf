use Rattle.std.proofs.Common.{◌≡◌, ◌<◌, true, false, length, arith, sym, ap, ◌∙◌, ◌++◌, ◌∷◌, []}
use Rattle.std.specs.Option.{is_some}
use Rattle.bar_fixpoint.specs.Overfilled.{rank_over}
use Rattle.bar_fixpoint.proofs.Listing.{listed, left_out}
use Rattle.bar_fixpoint.proofs.falling.Falling.overfilled.Goals as goal
use Rattle.bar_fixpoint.proofs.falling.Falling.overfilled.Goals.{then-is_overfilled+in_ok-push, else-is_overfilled}

pub loop-i-preserved : goal.loop-i-preserved
loop-i-preserved g c =
    let sys = g.Self.Falling.system c.args.self.now in
    let bars = g.Self.Falling.bars c.args.self.now in
    let lt : c.loop-i.i < length sys.ceilings = omega (arith, c.loop-i-test.true, c.count-i-end.ensures) in
    elim c.if-is_overfilled.branch [
      | then-is_overfilled+in_ok-push w ↦
          let some : is_some (rank_over sys bars c.loop-i.i) ≡ true =
          ap is_some (sym c.in_ok-over.ensures) ∙ sym w.if-is_overfilled.ensures in
          rw w.places-is (w.in_ok-push.ensures.items ∙ ap (λ xs. xs ++ c.loop-i.i ∷ []) c.loop-i.invariant
          ∙ sym (listed sys bars c.loop-i.i lt some))
      | else-is_overfilled w ↦
          let none : is_some (rank_over sys bars c.loop-i.i) ≡ false =
          ap is_some (sym c.in_ok-over.ensures) ∙ sym w.if-is_overfilled.ensures in
          rw w.places-is (c.loop-i.invariant ∙ sym (left_out sys bars c.loop-i.i lt none))
    ]
