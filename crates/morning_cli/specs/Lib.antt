pub mod Answering
pub mod SlotWanted
pub mod Morning
pub mod Run
