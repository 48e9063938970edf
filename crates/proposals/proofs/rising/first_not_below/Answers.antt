use Rattle.std.proofs.Common.{ℕ, rules, ltb}
use Rattle.std.proofs.lemmas.List.Sorted.{IsPartitionPoint-from_clause, IsPartitionedBy-ltb}
use Rattle.proposals.proofs.rising.first_not_below.Goals as goal

pub returns-clause-point : goal.returns-clause-point
returns-clause-point c =
    IsPartitionPoint-from_clause (λ k. ltb k c.args.number) _ _ c.partition_point.ensures.partitioned
    (IsPartitionedBy-ltb (λ (k : ℕ). k) _ c.args.number c.requires) (λ a r q k. search rules)
