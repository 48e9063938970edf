use Rattle.std.proofs.Common.{false, length}
use Rattle.std.specs.Prelude.{replicate}
use Rattle.proposals.specs.Flags.{SetsAlso}
use Rattle.demand.proofs.Visiting.{is_proposed_below}
use Rattle.demand.proofs.walk.proposed_flags.Given as goal

abbrev pub invariant-loop-programme : goal.invariant-loop-programme
invariant-loop-programme l =
    SetsAlso (is_proposed_below l.state l.orders.orders l.bars l.programme)
    (replicate (length l.state.dossier.wishes) false) l.flags.items
