use Rattle.law_cases.proofs.DefinitionCases.{mixed_the_other_way, repeated_rows, unknown_names}
use Rattle.law_cases.proofs.definitions.worked_relations.Goals as goal

pub returns : goal.returns
returns c = record {
  mixed = mixed_the_other_way;
  repeats = repeated_rows;
  unknown = unknown_names;
}
