pub mod Parses
pub mod Starts
