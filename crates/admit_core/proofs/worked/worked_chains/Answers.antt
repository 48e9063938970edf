use Rattle.admit_core.proofs.ChainRows.{valid_chain_holds, chain_faults_hold, two_passes_hold, any_name_holds}
use Rattle.admit_core.proofs.ChainRows.{envies_holds, last_of_two_holds, seat_is_vacant_holds, none_blocks_holds}
use Rattle.admit_core.proofs.ChainRows.{beds_needed_hold}
use Rattle.admit_core.proofs.worked.worked_chains.Goals as goal

pub returns : goal.returns
returns c =
    record {
      valid_chain = valid_chain_holds;
      chain_faults = chain_faults_hold;
      two_passes = two_passes_hold;
      any_name = any_name_holds;
      envies = envies_holds;
      last_of_two = last_of_two_holds;
      seat_is_vacant = seat_is_vacant_holds;
      none_blocks = none_blocks_holds;
      beds_needed = beds_needed_hold;
    }
