pub mod Overfilled
pub mod Runs
pub mod Choices
pub mod Chosen
pub mod Steps
pub mod Costs
pub mod Tired
