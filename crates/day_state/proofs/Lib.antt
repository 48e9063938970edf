-- Reading order. Each file says in its first line what it shows.
-- One mark: Counting, Places, KeptCounts, Lost, Freeing, Change, SameMarks, Paired (statuses and stamps).
-- The order by candidate: Ordering, Keys, Runs. A candidate's wishes: Along, Changing, Best, Taking.
-- Marks of another state: TakingOver.
-- Bundles, from bottom to top: Numbering (their first wishes), Laters (the others), Sharing (which
-- have a count), Ascending, Numbered (the numbers of those), Entries (how a wish's number is kept),
-- ByNumber (the wishes of each number), Bundled (how many of a bundle are live), Waits (who waits, by
-- flags), Telling (what a count tells of its candidate), Beside (who waits beside a live wish).
-- Days: OneAccepted, Filled, Lapsing, Answering, Independence (candidates stand apart), and last
-- FittingLists.
pub mod Counting
pub mod Places
pub mod KeptCounts
pub mod Change
pub mod Ordering
pub mod Keys
pub mod Runs
pub mod Along
pub mod Numbering
pub mod Laters
pub mod Sharing
pub mod Ascending
pub mod Numbered
pub mod Entries
pub mod ByNumber
pub mod Lost
pub mod Freeing
pub mod Changing
pub mod Best
pub mod Taking
pub mod OneAccepted
pub mod Answering
pub mod Filled
pub mod Paired
pub mod Bundled
pub mod Waits
pub mod Telling
pub mod Beside
pub mod Independence
pub mod Lapsing
pub mod FittingLists
pub mod SameMarks
pub mod TakingOver
