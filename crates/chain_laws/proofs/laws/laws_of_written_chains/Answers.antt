use Rattle.certificate.proofs.ReadBack.{reads_back}
use Rattle.chain_laws.proofs.ValidDays.{own_chains_are_proved}
use Rattle.chain_laws.proofs.laws.laws_of_written_chains.Goals as goal

pub returns-clause-reads_back : goal.returns-clause-reads_back
returns-clause-reads_back c = λ d days valid. reads_back d valid days

pub returns-clause-proved : goal.returns-clause-proved
returns-clause-proved c = own_chains_are_proved
