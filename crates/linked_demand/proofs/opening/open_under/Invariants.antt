use Rattle.linked_demand.proofs.Shutting.{AreShut}
use Rattle.linked_demand.proofs.opening.open_under.Given as goal

abbrev pub invariant-loop-school : goal.invariant-loop-school
invariant-loop-school l = AreShut l.state l.bars l.school l.opens
