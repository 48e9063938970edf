use Rattle.certificate.proofs.ReadsWritten.{reads_what_is_written}
use Rattle.chain_laws.proofs.laws.laws_of_grammar.Goals as goal

pub returns : goal.returns
returns c = record { reads = reads_what_is_written }
