pub mod Kinder
pub mod OnePlaceUp
pub mod StruckOut
pub mod Unread
