use Rattle.std.proofs.Common.{◌≡◌, List, []}
use Rattle.std.specs.Prelude.{sum}
use Rattle.admit_core.specs.declared.records.Fall.{Fall}
use Rattle.bar_fixpoint.specs.Costs.{CountsFalls}
use Rattle.bar_fixpoint.specs.Overfilled.{all_overfilled}
use Rattle.bar_fixpoint.specs.Steps.{AreUnchanged}
use Rattle.bar_fixpoint.proofs.SoFar.{SoFar}
use Rattle.bar_fixpoint.proofs.engine.lower_all.Given as goal

-- falls led here, and the keeper was given them
abbrev pub invariant-loop-school : goal.invariant-loop-school
invariant-loop-school g l =
    let f = g.F.Falling in
    let first = goal.Picker-dyn g l.fn.picker.now in
    let now = goal.Picker-dyn g l.picker.now in
    record {
      idle : all_overfilled (f.system l.fn.system) (f.bars l.fn.system) ≡ [] → l.system ≡ l.fn.system;
      unchanged : AreUnchanged (f.system l.fn.system) (f.system l.system) (f.offers l.fn.system) (f.offers l.system)
          (first.choice l.fn.picker.now.1) (now.choice l.picker.now.1);
      so_far : (falls : List Fall) × SoFar (f.system l.fn.system) (first.choice l.fn.picker.now.1)
          (first.told l.fn.picker.now.1) falls (f.bars l.system) (now.told l.picker.now.1);
      same_cost : f.cost l.system ≡ f.cost l.fn.system;
      counted : CountsFalls (f.cost l.fn.system) (f.bars l.fn.system) l.fn.steps l.steps so_far.0;
      given : g.K.Keeper.was_given l.keeper so_far.0;
    }

abbrev pub decreases-loop-school : goal.decreases-loop-school
decreases-loop-school g l = sum (g.F.Falling.bars l.system)
