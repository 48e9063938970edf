pub mod FewPasses
pub mod Idle
pub mod LastBars
