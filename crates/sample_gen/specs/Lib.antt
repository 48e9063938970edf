pub mod Choices
pub mod Samples
