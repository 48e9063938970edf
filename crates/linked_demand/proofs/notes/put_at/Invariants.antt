use Rattle.std.proofs.Common.{take}
use Rattle.linked_demand.specs.Notes.{PutAt}
use Rattle.linked_demand.proofs.notes.put_at.Given as goal

abbrev pub invariant-loop-wish : goal.invariant-loop-wish
invariant-loop-wish l = PutAt (take l.wish-index l.claim) l.number l.initial.numbers.items l.numbers.items
