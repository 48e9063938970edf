-- Reading order. Each file says in its first line what it shows.
-- Texts are taken apart: Words (lines and rows), Runs (where lines of one kind end).
-- What a name tells: Names (ids, statuses, letters), Dates.
-- Lines, then days: Lines, Days.
-- Whole runs: Whole, WholeDated (with deadlines).
-- Telling gathers the laws; by computation: Worked.
pub mod Words
pub mod Dates
pub mod Names
pub mod Runs
pub mod Lines
pub mod Days
pub mod Telling
pub mod Whole
pub mod WholeDated
pub mod Worked
