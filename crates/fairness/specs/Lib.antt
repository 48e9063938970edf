pub mod Exchanges
pub mod NotPromised
pub mod OrderPromises
pub mod PassPromises
