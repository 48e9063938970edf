pub mod Answering
pub mod Delivering
pub mod Outcome
pub mod Run
pub mod Start
pub mod Words
