pub mod Checks
pub mod MarketTexts
pub mod OutcomeWitnesses
pub mod Outcomes
pub mod ReplayTexts
pub mod Sizes
pub mod Witnesses
