use Rattle.std.proofs.Common.{rules, leb}
use Rattle.std.proofs.lemmas.List.Sorted.{IsPartitionPoint-from_clause, IsPartitionedBy-leb}
use Rattle.admit_core.specs.declared.dossier.Answer.{Answer}
use Rattle.desk_day.proofs.answers_on.first_after.Goals as goal

pub returns-clause-point : goal.returns-clause-point
returns-clause-point c =
    IsPartitionPoint-from_clause (λ (a : Answer). leb a.day c.args.day) _ _ c.partition_point.ensures.partitioned
    (IsPartitionedBy-leb (λ (a : Answer). a.day) _ c.args.day c.requires) (λ a r q k. search rules)
