pub mod CalendarLaws
pub mod DateLaws
pub mod JiffDates
pub mod TextLaws
