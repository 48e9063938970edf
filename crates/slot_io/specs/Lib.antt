pub mod Bytes
pub mod Devices
pub mod Faults
pub mod Reads
pub mod Refusals
pub mod Shelves
pub mod Sinks
