use Rattle.demand.proofs.Visiting.{IsWalked}
use Rattle.demand.proofs.walk.flag_proposed.Given as goal

abbrev pub invariant-loop-before : goal.invariant-loop-before
invariant-loop-before l = IsWalked l.state l.orders.orders l.bars l.programme l.order l.before l.ahead
    l.initial.flags.items l.flags.items
