-- Reading order. Each file says in its first line what it shows.
-- Other beds: RoomyBeds (free beds then), LentBeds (a state that is lent them).
-- The need: Coming (who comes, by their names), Counted (who is counted), Least (exactly enough beds,
-- and no fewer).
-- More beds: Growing (no bar falls). What a picker told: Telling.
mod Coming
mod Counted
pub mod Growing
mod Least
mod LentBeds
mod RoomyBeds
mod Telling
