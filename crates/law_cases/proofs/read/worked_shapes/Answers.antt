use Rattle.law_cases.proofs.ReadCases.{field_count_faults, first_fault_of_shape, header_faults, number_faults}
use Rattle.law_cases.proofs.ReadCases.{range_faults, too_many_rows, word_faults}
use Rattle.law_cases.proofs.read.worked_shapes.Goals as goal

pub returns : goal.returns
returns c = record {
  header = header_faults;
  field_count = field_count_faults;
  number = number_faults;
  range = range_faults;
  word = word_faults;
  first = first_fault_of_shape;
  rows = too_many_rows;
}
