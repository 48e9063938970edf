-- Reading order. Each file says in its first line what it shows.
-- One table: Tables (a text is read as its rows where each row is). Dates.
-- All slots: ReadBack, one header and one row a slot. By computation: WorkedTexts.
pub mod Dates
pub mod ReadBack
pub mod Tables
pub mod WorkedTexts
