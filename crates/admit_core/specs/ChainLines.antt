-- How the faults of chains are numbered and printed.
use Rattle.std.specs.Prelude.{ℕ, List, ◌++◌, codes}
use Rattle.std.specs.Fmt.{decimal}
use Rattle.admit_core.specs.declared.chain.ChainReason.{ChainReason}
use Rattle.admit_core.specs.declared.chain.ChainReason.TheVariants.{NotLine, WrongNumber, NoEnd, AfterEnd}
use Rattle.admit_core.specs.declared.chain.ChainFault.{ChainFault}
use Rattle.admit_core.specs.declared.chain.CheckReason.{CheckReason}
use Rattle.admit_core.specs.declared.chain.CheckReason.TheVariants.{NotOver, WrongWishes, WrongBar, StillOver}
use Rattle.admit_core.specs.declared.chain.CheckReason.TheVariants.{PassMissing, PassExtra}

abbrev pub chain_reason_number : ChainReason → ℕ
chain_reason_number NotLine = 1
chain_reason_number WrongNumber = 2
chain_reason_number NoEnd = 3
chain_reason_number AfterEnd = 4

abbrev pub chain_reason_name : ChainReason → List ℕ
chain_reason_name NotLine = codes "NotLine"
chain_reason_name WrongNumber = codes "WrongNumber"
chain_reason_name NoEnd = codes "NoEnd"
chain_reason_name AfterEnd = codes "AfterEnd"

abbrev pub check_reason_number : CheckReason → ℕ
check_reason_number NotOver = 1
check_reason_number WrongWishes = 2
check_reason_number WrongBar = 3
check_reason_number (StillOver school) = 4
check_reason_number PassMissing = 5
check_reason_number PassExtra = 6

abbrev pub check_reason_name : CheckReason → List ℕ
check_reason_name NotOver = codes "NotOver"
check_reason_name WrongWishes = codes "WrongWishes"
check_reason_name WrongBar = codes "WrongBar"
check_reason_name (StillOver school) = codes "StillOver"
check_reason_name PassMissing = codes "PassMissing"
check_reason_name PassExtra = codes "PassExtra"

-- the line of a fault of the grammar, without its line feed
abbrev pub chain_fault_text : ChainFault → List ℕ
chain_fault_text fault =
    codes "not a chain row " ++ decimal fault.row ++ codes " reason "
    ++ decimal (chain_reason_number fault.reason) ++ codes " " ++ chain_reason_name fault.reason
