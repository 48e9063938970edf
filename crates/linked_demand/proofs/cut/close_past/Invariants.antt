use Rattle.std.proofs.Common.{◌≡◌, ◌+◌, ◌≤◌, length, count_by, take}
use Rattle.std.specs.List.{enumerate_from}
use Rattle.admit_core.specs.State.{entries}
use Rattle.linked_demand.specs.Marks.{is_new, MarksWishes}
use Rattle.linked_demand.specs.Rows.{row_in}
use Rattle.linked_demand.proofs.Cutting.{SoFar}
use Rattle.linked_demand.proofs.cut.close_past.Given as goal

abbrev pub invariant-loop-end : goal.invariant-loop-end
invariant-loop-end g l =
    record {
      within : l.end ≤ length l.front;
      cut : SoFar l.to (row_in l.initial.links.state l.front) l.initial.links l.links
          (length (row_in l.initial.links.state (take l.end l.front)));
      steps : l.steps + length (row_in l.initial.links.state (take l.end l.front))
          ≡ l.initial.steps + length (row_in l.initial.links.state l.front) + count_by
          (is_new l.initial.links.state l.bars l.initial.links l.links)
          (enumerate_from 0 (entries l.initial.links.state));
      marked : MarksWishes l.initial.links.state
          (is_new l.initial.links.state l.bars l.initial.links l.links) l.initial.marked l.marked;
    }

abbrev pub decreases-loop-end : goal.decreases-loop-end
decreases-loop-end g l = l.end
