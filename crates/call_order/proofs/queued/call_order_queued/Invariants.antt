use Rattle.std.proofs.Common.{◌+◌, ◌≤◌, ◌≡◌, ◌++◌, length}
use Rattle.std.specs.Prelude.{vec_capacity}
use Rattle.call_order.specs.QueuedCalls.{ranking_by}
use Rattle.call_order.proofs.QueuedSoFar.{QueuedSoFar}
use Rattle.call_order.proofs.queued.call_order_queued.Given as goal

abbrev pub invariant-loop-ranked : goal.invariant-loop-ranked
invariant-loop-ranked g l =
    record {
      so_far : QueuedSoFar (ranking_by l.scholar_pct l.resident_pct l.fn.queues.remaining) l.list.items l.trace.items
          l.tally l.queues.remaining;
      taken : l.queues.taken ≡ l.fn.queues.taken ++ l.list.items;
      steps : l.steps ≡ l.fn.steps + length l.list.items;
      list_room : length l.fn.queues.remaining ≤ vec_capacity l.list;
      trace_room : length l.fn.queues.remaining ≤ vec_capacity l.trace;
    }

abbrev pub decreases-loop-ranked : goal.decreases-loop-ranked
decreases-loop-ranked g l = length l.queues.remaining
