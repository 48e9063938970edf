pub mod ReadBack
pub mod Witnesses
