-- Reading order. Each file says in its first line what it shows.
-- One day: Naming (pickers by name), NextDay (how it ends with the picker of the day).
-- The loop: DaysSoFar (what holds of the days so far). The desk after them: LastDay.
-- Days whose falls are kept or left out: KeptDays.
mod DaysSoFar
mod NextDay
pub mod LastDay
pub mod Naming
pub mod KeptDays
