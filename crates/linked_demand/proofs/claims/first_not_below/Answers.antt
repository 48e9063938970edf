use Rattle.std.proofs.Common.{◌≡◌, rules, true, false, ltb}
use Rattle.std.proofs.lemmas.List.Sorted.{IsPartitionPoint-from_clause, IsPartitionedBy-ltb}
use Rattle.linked_demand.specs.declared.wishing.Application.{Application}
use Rattle.linked_demand.proofs.ClaimSpans.{applications_rise, point_of_candidates}
use Rattle.linked_demand.proofs.claims.first_not_below.Goals as goal

pub returns-clause-point : goal.returns-clause-point
returns-clause-point c =
    let n = c.args.candidate in
    point_of_candidates c.args.applications.now (λ k. ltb k n ≡ true) (λ k. ltb k n ≡ false) c.partition_point.result
    c.partition_point.ensures.bound
    (IsPartitionPoint-from_clause (λ (x : Application). ltb x.candidate n) _ _ c.partition_point.ensures.partitioned
    (IsPartitionedBy-ltb (λ (x : Application). x.candidate) _ n (applications_rise c.args.applications.now c.requires))
    (λ a r q k. search rules))
