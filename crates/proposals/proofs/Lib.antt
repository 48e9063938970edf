pub mod OwnOpen
pub mod Setting
pub mod Front
pub mod Calling
pub mod Picking
pub mod Named
