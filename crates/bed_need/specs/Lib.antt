pub mod BedLaws
pub mod Figures
pub mod Growing
pub mod Needing
pub mod Questions
pub mod Telling
pub mod Text
