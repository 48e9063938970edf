pub mod ReadDates
