pub mod Dated
pub mod Input
pub mod Reading
pub mod Shelves
pub mod Stops
