pub mod Told
pub mod Lines
pub mod Days
pub mod Whole
pub mod Witnesses
