pub mod ReadRows
pub mod StateSlots
pub mod WorkedEvening
pub mod WrittenRows
