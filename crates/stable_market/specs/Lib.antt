pub mod Blocks
pub mod Truth
pub mod Worked
