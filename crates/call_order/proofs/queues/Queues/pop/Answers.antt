use Rattle.std.proofs.Common.{sym}
use Rattle.call_order.specs.Kinds.{is_of}
use Rattle.call_order.proofs.Firsts.{without_first-none}
use Rattle.call_order.proofs.MovedHeads.{head-goes}
use Rattle.call_order.proofs.queues.Queues.pop.Goals as goal

pub next_place-next-requires : goal.next_place-next-requires
next_place-next-requires g c =
    rw (c.place.ensures, c.deref.ensures.value)
    (head-goes c.self.invariant c.self.view_is c.args.kind c.in_ok-head.head c.in_ok-head.ensures).within

pub push_reserved-requires : goal.push_reserved-requires
push_reserved-requires g c =
    (head-goes c.self.invariant c.self.view_is c.args.kind c.in_ok-head.head c.in_ok-head.ensures).room

pub returns-in_err-head-clause-remaining : goal.returns-in_err-head-clause-remaining
returns-in_err-head-clause-remaining g c =
    sym (without_first-none (is_of c.args.kind) c.args.self.now.remaining (sym c.in_err-head.ensures))

pub invariant_of-self : goal.invariant_of-self
invariant_of-self g c =
    rw (
      c.move_to.ensures,
      c.next_place-next.ensures.next,
      c.place.ensures,
      c.deref.ensures.value,
      c.push_reserved.ensures.len,
      c.push_reserved.ensures.capacity,
    )
    (head-goes c.self.invariant c.self.view_is c.args.kind c.in_ok-head.head c.in_ok-head.ensures).still

pub returns-clause-remaining : goal.returns-clause-remaining
returns-clause-remaining g c =
    rw (c.move_to.ensures, c.next_place-next.ensures.next, c.place.ensures, c.deref.ensures.value, ← c.self.view_is)
    (head-goes c.self.invariant c.self.view_is c.args.kind c.in_ok-head.head c.in_ok-head.ensures).remaining

pub returns-clause-ranks : goal.returns-clause-ranks
returns-clause-ranks g c =
    rw (c.move_to.ensures, c.next_place-next.ensures.next, c.place.ensures, c.deref.ensures.value)
    (head-goes c.self.invariant c.self.view_is c.args.kind c.in_ok-head.head c.in_ok-head.ensures).still.ranks
