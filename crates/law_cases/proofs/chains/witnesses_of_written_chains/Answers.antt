use Rattle.law_cases.proofs.ChainCases.{own_chains_are_proved_here, reads_back_here}
use Rattle.law_cases.proofs.chains.witnesses_of_written_chains.Goals as goal

pub returns : goal.returns
returns c = record {
  reads_back = reads_back_here;
  proved = own_chains_are_proved_here;
}
