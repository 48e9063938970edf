-- Reading order. Each file says in its first line what it shows.
-- Slots in their order: ReadOrder, the longest. What is named: Named.
-- All that is taken in: TakenIn, which stands on ReadOrder.
-- Terms with dates: DatedOffers.
pub mod DatedOffers
pub mod Named
pub mod ReadOrder
pub mod TakenIn
