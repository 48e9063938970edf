pub mod ReadBack
pub mod Texts
pub mod Witnesses
