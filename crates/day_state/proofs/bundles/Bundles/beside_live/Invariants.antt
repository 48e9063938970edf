use Rattle.std.proofs.Common.{◌-◌, length}
use Rattle.day_state.proofs.Beside.{AreBeside}
use Rattle.day_state.proofs.bundles.Bundles.beside_live.Given as goal

abbrev pub invariant-loop-number : goal.invariant-loop-number
invariant-loop-number l = AreBeside l.flags l.self.live l.self.numbers.value l.from l.found.items

abbrev pub decreases-loop-number : goal.decreases-loop-number
decreases-loop-number l = length l.self.live - l.from
