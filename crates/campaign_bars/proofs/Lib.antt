-- Reading order. Each file says in its first line what it shows.
-- From pass to pass: Ahead (who stands ahead). From day to day: Overnight.
-- More beds: RoomyPass (one pass with more beds is the same), and then MoreBeds (whole campaigns).
pub mod Ahead
pub mod RoomyPass
pub mod MoreBeds
pub mod Overnight
