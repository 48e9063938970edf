-- Reading order. Each file says in its first line what it shows.
-- Tools: Lists, Pairs (of each two of a list), OddMultiples.
-- What choices are like: Ranks (all different), ChoiceFacts, FoundChoices (who is found where).
-- The numbers are in range: SampleRanges.
-- No slot has a fault: ItemSlots, RankSlots, WishSlot (the longest); Faultless puts them together.
pub mod ChoiceFacts
pub mod Faultless
pub mod FoundChoices
pub mod ItemSlots
pub mod Lists
pub mod OddMultiples
pub mod Pairs
pub mod Ranks
pub mod RankSlots
pub mod SampleRanges
pub mod WishSlot
