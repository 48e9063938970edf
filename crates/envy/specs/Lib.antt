pub mod AutomaticDays
pub mod Blocks
pub mod Known
pub mod Noted
pub mod Text
