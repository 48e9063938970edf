-- Reading order. Each file says in its first line what it shows.
-- What is read is in range: TypeOf (a help), ReadRows (of a slot), ReadTables (of all).
-- A check of a run's own chain: OwnTexts (of days of the rules), Requests, JobsOf (the jobs of runs over one
-- shelf), and then Outcomes (of whole runs).
-- Markets: BestMarkets. The text of `replay`: ReplayTexts.
-- Witnesses, by computation: Cases, SizeCases, and OutcomeCases (whole runs from their bytes), the longest.
pub mod BestMarkets
pub mod Cases
pub mod JobsOf
pub mod OutcomeCases
pub mod Outcomes
pub mod OwnTexts
pub mod ReadRows
pub mod ReadTables
pub mod ReplayTexts
pub mod Requests
pub mod SizeCases
pub mod TypeOf
