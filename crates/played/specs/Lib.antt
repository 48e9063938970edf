pub mod LastDays
pub mod LastDesks
pub mod Lent
pub mod OneDay
pub mod PlayedDays
pub mod KeptDays
