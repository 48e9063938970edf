-- Reading order. Each file says in its first line what it shows.
-- One best: OneBest.
-- The first block: LastNoting (the last of each programme), Blocking (walks along lists).
-- Truth pays: Moved (stable in a market with one other list), Shorter (a list that is cut down), and last Truth,
-- whose first line tells the whole argument.
pub mod Blocking
pub mod LastNoting
pub mod Moved
pub mod OneBest
pub mod Shorter
pub mod Truth
