use Rattle.std.proofs.Common.{◌≡◌, ◌+◌, ◌&&◌, count_by, take}
use Rattle.admit_core.specs.Lists.{is_among}
use Rattle.linked_demand.specs.Marks.{is_fresh, MarksWishes}
use Rattle.linked_demand.specs.Opens.{all_exempt}
use Rattle.linked_demand.proofs.fresh.note_fresh.Given as goal

abbrev pub invariant-loop-wish : goal.invariant-loop-wish
invariant-loop-wish g l =
    record {
      steps : l.steps ≡ l.initial.steps + count_by
          (is_fresh l.state l.bars l.opens (all_exempt l.state l.notes.called_by_limit)) (take l.wish-index l.claim);
      marked : MarksWishes l.state
          (λ x. is_among x.0 (take l.wish-index l.claim) && is_fresh l.state l.bars l.opens
          (all_exempt l.state l.notes.called_by_limit) x.0) l.initial.marked l.marked;
    }
