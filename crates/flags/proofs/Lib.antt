pub mod Bits
pub mod NextSet
