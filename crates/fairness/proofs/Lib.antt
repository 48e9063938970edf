-- Reading order. Each file says in its first line what it shows.
-- One pass: PassedOver (nobody is passed over), Beds (no bed goes to a worse rank).
-- Call orders: ByRank; NextCalled and then Better (to be better never means to be called later).
-- Two neighbours change places: Seams (who stands before whom), Exchanging (the state after it),
-- then MovedUp (in a call order) and BoardingRanks (in a school).
-- What is not promised, by computation: Shown.
pub mod Beds
pub mod Better
pub mod BoardingRanks
pub mod ByRank
pub mod Exchanging
pub mod MovedUp
pub mod NextCalled
pub mod PassedOver
pub mod Seams
pub mod Shown
