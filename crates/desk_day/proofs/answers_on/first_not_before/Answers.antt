use Rattle.std.proofs.Common.{rules, ltb}
use Rattle.std.proofs.lemmas.List.Sorted.{IsPartitionPoint-from_clause, IsPartitionedBy-ltb}
use Rattle.admit_core.specs.declared.dossier.Answer.{Answer}
use Rattle.desk_day.proofs.answers_on.first_not_before.Goals as goal

pub returns-clause-point : goal.returns-clause-point
returns-clause-point c =
    IsPartitionPoint-from_clause (λ (a : Answer). ltb a.day c.args.day) _ _ c.partition_point.ensures.partitioned
    (IsPartitionedBy-ltb (λ (a : Answer). a.day) _ c.args.day c.requires) (λ a r q k. search rules)
