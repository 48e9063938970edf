-- Reading order. Each file says in its first line what it shows.
-- What is noted once: Knowing (best wishes, last live ones); Orders and LastLive (the last live one
-- decides whom a candidate envies).
-- The list of blocks: Listing.
-- The law of automatic days: Leasts, then OnePass (one pass leaves a fair state fair), the
-- longest file, then AutomaticDays.
pub mod Knowing
pub mod LastLive
pub mod Listing
pub mod Leasts
pub mod Orders
pub mod OnePass
pub mod AutomaticDays
