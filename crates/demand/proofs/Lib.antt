-- Reading order. Each file says in its first line what it shows.
-- What is proposed: Visiting (a walk along a call order, flag by flag), Listed (what the calls list).
-- What is demanded: Ranking (the first of each rank, in order).
pub mod Visiting
pub mod Ranking
pub mod Listed
