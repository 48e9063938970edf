-- Reading order. Each file says in its first line what it shows.
-- A push and the next one: Pushing (`pushed_..` where all fits, `cut_..` where the room ends).
-- Loops that push: LineLemmas (lines from lists), PushedItems (by place), PushedWords (words of a line).
-- Dates: DateWords.
-- Worked texts, by computation: WorkedCases.
pub mod DateWords
pub mod LineLemmas
pub mod Pushing
pub mod PushedWords
pub mod PushedItems
pub mod WorkedCases
