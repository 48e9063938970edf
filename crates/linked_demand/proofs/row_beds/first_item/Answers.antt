use Rattle.std.proofs.Common.{rules, ltb}
use Rattle.std.proofs.lemmas.List.Sorted.{IsPartitionPoint-from_clause, IsPartitionedBy-ltb}
use Rattle.linked_demand.specs.declared.rows.RowWish.{RowWish}
use Rattle.linked_demand.proofs.row_beds.first_item.Goals as goal

pub returns-clause-point : goal.returns-clause-point
returns-clause-point c =
    IsPartitionPoint-from_clause (λ (x : RowWish). ltb x.rank c.args.rank) _ _ c.partition_point.ensures.partitioned
    (IsPartitionedBy-ltb (λ (x : RowWish). x.rank) _ c.args.rank c.requires) (λ a r q k. search rules)
