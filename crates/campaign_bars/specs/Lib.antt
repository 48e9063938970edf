pub mod Ahead
pub mod HeldBeds
pub mod MoreBeds
pub mod Overnight
