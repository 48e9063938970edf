-- Reading order. Each file says in its first line what it shows.
-- Lists: Firsts (the first that passes a test), Zips.
-- The queues: Standing (who remains, by place), MovedHeads (what `build` and `pop` rest on).
-- The next call: ByKinds (from the heads of its kinds), FirstPlaces (from their places).
-- The loop: QueuedSoFar (what holds of the calls so far). That the order is the rule's stands in admit_core.
pub mod Firsts
pub mod MovedHeads
pub mod Standing
pub mod ByKinds
pub mod FirstPlaces
pub mod QueuedSoFar
pub mod Zips
