pub mod ByPlace
pub mod DayEnds
pub mod FixedCases
pub mod OneCase
