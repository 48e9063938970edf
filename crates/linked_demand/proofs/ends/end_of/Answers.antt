use Rattle.std.proofs.Common.{rules, leb}
use Rattle.std.proofs.lemmas.List.Sorted.{IsPartitionPoint-from_clause, IsPartitionedBy-leb}
use Rattle.linked_demand.specs.declared.rows.RowWish.{RowWish}
use Rattle.linked_demand.proofs.ends.end_of.Goals as goal

pub returns : goal.returns
returns c = record {
  within = c.partition_point.ensures.bound;
  point = IsPartitionPoint-from_clause (λ (x : RowWish). leb x.rank c.args.bar) _ _
      c.partition_point.ensures.partitioned
      (IsPartitionedBy-leb (λ (x : RowWish). x.rank) _ c.args.bar c.requires) (λ a r q k. search rules);
}
