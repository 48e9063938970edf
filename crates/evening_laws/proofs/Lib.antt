-- Reading order. Each file says in its first line what it shows.
-- FewPasses (each pass but the last gives up a live wish); LastPass (what waits in the evening met a bar or no
-- seat), of which idle places and evening bars follow.
pub mod FewPasses
pub mod LastPass
