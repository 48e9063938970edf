pub mod ValidLines
pub mod ValidDays
