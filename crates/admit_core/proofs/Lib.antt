-- Reading order. Each file says in its first line what it shows.
-- Lists and tests: Tests, Plain, FirstPlaces, LeastFirst, SortedBy, SortedLists, ByPlaces; Plain
-- has what several crates cite.
-- Call orders: Remaining, NextCalls, Calls, OneOrder, OrderPermutes, CallRows, CalledCounts;
-- what is promised of them: RatesKept, ScholarsFirst, LeastOrder; OrderLaws gathers it.
-- Bars: FallsLaw, FullBeds, DemandLaws.
-- Passes and evenings: Statuses, Holders, Counting, FilledSeats, Evenings; ClosedEvenings is the
-- longest, and comes last.
-- Chains: ChainLaws. Faults and dossiers: NoFaults, Dossiers, Rebuilt, SlotFacts.
-- Worked cases, mostly refl: Rows, DayRows, ChainRows, SmallDossier, WorkedFaultRows.
pub mod ByPlaces
pub mod CallRows
pub mod CalledCounts
pub mod Calls
pub mod ChainLaws
pub mod ChainRows
pub mod ClosedEvenings
pub mod Counting
pub mod DayRows
pub mod DemandLaws
pub mod Dossiers
pub mod Evenings
pub mod FallsLaw
pub mod FilledSeats
pub mod FirstPlaces
pub mod FullBeds
pub mod Holders
pub mod LeastFirst
pub mod LeastOrder
pub mod NextCalls
pub mod NoFaults
pub mod OneOrder
pub mod OrderLaws
pub mod OrderPermutes
pub mod RatesKept
pub mod Plain
pub mod Rebuilt
pub mod Remaining
pub mod Rows
pub mod ScholarsFirst
pub mod SlotFacts
pub mod SmallDossier
pub mod SortedBy
pub mod SortedLists
pub mod Statuses
pub mod Tests
pub mod WorkedFaultRows
