-- Reading order. Each file says in its first line what it shows.
-- One fall: Listing (the overfilled places), OneFall (the pick, the rank, the names).
-- The loop: SoFar; where nothing falls: Idle; what follows at its end: Ending.
-- Laws of runs and their picks: RunLaws. That a run ends at the greatest stands in admit_core (FallsLaw).
pub mod Listing
pub mod Idle
pub mod RunLaws
pub mod OneFall
pub mod SoFar
pub mod Ending
