use Rattle.std.proofs.Common.{rules, ltb}
use Rattle.std.proofs.lemmas.List.Sorted.{IsPartitionPoint-from_clause, IsPartitionedBy-ltb}
use Rattle.markets.specs.declared.ranked.Rank.{Rank}
use Rattle.markets.proofs.ranked.first_not_below.Goals as goal

pub returns-clause-point : goal.returns-clause-point
returns-clause-point c =
    IsPartitionPoint-from_clause (λ (r : Rank). ltb r.programme c.args.programme) _ _
    c.partition_point.ensures.partitioned
    (IsPartitionedBy-ltb (λ (r : Rank). r.programme) _ c.args.programme c.requires) (λ a r q k. search rules)
