-- Reading order. Each file says in its first line what it shows.
-- What an ending rests on: Writable (days and evening can be written), OnDesks (from a job to a desk).
-- Modes that ask a picker: Figuring (`beds`), Marketing (`market`), and Lending (the picker is back).
-- The mode `check`: CheckedDay (one day), CheckedExits (how it may end).
-- Days that keep no falls give the same text: KeptEnds, three tables by mode, comes last.
-- Below each function's folder stands what the prover did not find alone.
mod Figuring
mod Lending
pub mod CheckedDay
pub mod CheckedExits
pub mod Marketing
pub mod KeptEnds
pub mod OnDesks
pub mod Writable
