use Rattle.std.proofs.Common.{◌-◌, length}
use Rattle.day_state.proofs.Runs.{IsRunSoFar}
use Rattle.linked_demand.specs.CalledWishes.{IsFrontOf, numbers_before}
use Rattle.linked_demand.proofs.lineup.take_claim.Given as goal

abbrev pub invariant-loop-wishes : goal.invariant-loop-wishes
invariant-loop-wishes l = record {
  front : IsFrontOf l.called l.wishes.items;
  run : IsRunSoFar (λ k. k) (numbers_before l.called) (length l.fn.wishes.items) (length l.wishes.items);
}

abbrev pub decreases-loop-wishes : goal.decreases-loop-wishes
decreases-loop-wishes l = length l.called - length l.wishes.items
