-- Reading order. Each file says in its first line what it shows.
-- Finding: Firsts, Places, Found, FirstRows, FirstWishes, NotedKeys, KeyPlaces; ids that rise: Rising,
-- RisingIds; keys of hashes: MixedNumbers; numbers in order: SortedNumbers; tags of rows in order:
-- KeyAndPlace, DealtTags, TaggedRows.
-- Scans of a slot: Scans, LastRow, AcceptedRows, Outcomes.
-- Faults shown to be none without a scan: Faultless, WishTests; ranks: DealtRows,
-- BoardRanks; wishes: Runs, InOrder, TwiceWished, TwicePreferred, WhoIsRanked, MayNotWish.
-- What tables without a fault are: FaultFree, NoFault, RowFacts, Pairs; wishes in another order:
-- Reordered, which stands on WishesApart.
-- What is made of them: MadeItems, Buckets, BuiltGroups, PutStatuses, Undated.
-- The dossier is valid, part by part: ValidSizes, ValidItems, ValidRankings, ValidWishes,
-- WishesApart, OneAccepted, ValidAnswers; Valid puts them together and is the end of it.
pub mod AcceptedRows
mod BoardRanks
pub mod Buckets
pub mod BuiltGroups
pub mod DealtRows
pub mod DealtTags
pub mod FaultFree
pub mod Faultless
pub mod FirstRows
pub mod FirstWishes
pub mod Firsts
pub mod Found
pub mod InOrder
pub mod KeyAndPlace
pub mod KeyPlaces
pub mod LastRow
pub mod MadeItems
pub mod MayNotWish
pub mod MixedNumbers
pub mod NoFault
pub mod NotedKeys
pub mod OneAccepted
pub mod Outcomes
pub mod Pairs
pub mod Places
pub mod TwicePreferred
pub mod Rising
pub mod PutStatuses
pub mod Reordered
pub mod RisingIds
pub mod RowFacts
pub mod Runs
pub mod Scans
pub mod SortedNumbers
pub mod TaggedRows
pub mod TwiceWished
pub mod Undated
pub mod Valid
pub mod ValidAnswers
pub mod ValidItems
pub mod ValidRankings
pub mod ValidSizes
pub mod ValidWishes
pub mod WhoIsRanked
pub mod WishTests
pub mod WishesApart
