-- Reading order. Each file says in its first line what it shows.
-- A run begins: FirstWord.
-- It takes in: Taking (what the words ask for, from the shelf).
-- Its days and its end: Played (two tables by mode), Quiet (no fault is want of memory), and then
-- Replying (what it answers).
-- It writes: Writing (whole, or cut off).
mod FirstWord
pub mod Played
pub mod Quiet
mod Replying
mod Taking
mod Writing
