pub mod ReadOffers
pub mod Witnesses
