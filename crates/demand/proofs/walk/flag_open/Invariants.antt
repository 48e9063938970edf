use Rattle.std.proofs.Common.{◌&&◌, take}
use Rattle.admit_core.specs.Lists.{is_among}
use Rattle.proposals.specs.Flags.{SetsAlso}
use Rattle.proposals.specs.Open.{is_open_at}
use Rattle.demand.proofs.walk.flag_open.Given as goal

abbrev pub invariant-loop-place : goal.invariant-loop-place
invariant-loop-place l =
    SetsAlso (λ k. is_among k (take l.place-index l.own) && is_open_at l.state l.bars l.programme k)
    l.initial.flags.items l.flags.items
