pub mod Mornings
pub mod SlotTexts
pub mod Taking
pub mod Told
