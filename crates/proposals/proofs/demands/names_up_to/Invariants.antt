use Rattle.std.proofs.Common.{◌≡◌, filter, map, nat_le, take}
use Rattle.proposals.proofs.demands.names_up_to.Given as goal

abbrev pub invariant-loop-demand : goal.invariant-loop-demand
invariant-loop-demand l =
    l.names.items ≡ map (λ x. x.wish) (filter (λ x. nat_le x.rank l.upto) (take l.demand-index l.demands))
