-- The fault of a text that is no chain.
use Rattle.std.specs.Prelude.{Option, Some, None, Result, Ok, Err}
use Rattle.admit_core.specs.declared.chain.ChainFault.{ChainFault}

abbrev pub fault_in : {X : Type 0} → Result X ChainFault → Option ChainFault
fault_in (Ok x) = None
fault_in (Err fault) = Some fault
