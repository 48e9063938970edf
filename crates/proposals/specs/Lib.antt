pub mod Flags
pub mod Open
pub mod Called
pub mod Demands
