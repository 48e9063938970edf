use Rattle.admit_core.proofs.ChainLaws.{no_fault_where_valid, chains_tell_the_day}
use Rattle.admit_core.proofs.chain_laws.laws_of_chains.Goals as goal

pub returns : goal.returns
returns c = record { no_fault = no_fault_where_valid; tells = chains_tell_the_day }
