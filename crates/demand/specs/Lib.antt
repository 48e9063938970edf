pub mod Proposed
pub mod Needs
