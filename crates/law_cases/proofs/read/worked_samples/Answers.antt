use Rattle.law_cases.proofs.ReadCases.{choices_of_the_fourth, sample_of_four}
use Rattle.law_cases.proofs.read.worked_samples.Goals as goal

pub returns : goal.returns
returns c = record {
  four = sample_of_four;
  choices = choices_of_the_fourth;
}
