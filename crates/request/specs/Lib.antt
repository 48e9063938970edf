pub mod Command
pub mod Modes
pub mod Pickers
pub mod Refusals
pub mod Request
