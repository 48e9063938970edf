use Rattle.demand.proofs.Listed.{proposed_within}
use Rattle.demand.proofs.round.PlainRound.proposed.Goals as goal

pub returns-clause-within : goal.returns-clause-within
returns-clause-within c =
    rw c.in_ok-places.ensures (proposed_within c.args.self.now.state.now c.args.self.now.orders.now.orders
    c.deref.result.now)
