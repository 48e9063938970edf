-- Reading order. Each file says in its first line what it shows.
-- Tools: Members.
-- What offers do: Offering (made one after another), NewHolders (who becomes live).
-- The laws of passes: SeatLaw, BedLaw, FewFalls; OfferLaws gathers them, PassClauses brings them to a pass.
-- What the engine found: Found, and EarlyEnds (where memory ran out).
-- Falls that are kept or left out: KeptFalls.
pub mod BedLaw
pub mod FewFalls
pub mod Members
pub mod NewHolders
pub mod Offering
pub mod OfferLaws
pub mod PassClauses
pub mod SeatLaw
pub mod EarlyEnds
pub mod Found
pub mod KeptFalls
