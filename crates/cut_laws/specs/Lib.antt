pub mod Alike
pub mod Cut
pub mod StampsDecideNothing
pub mod Witnesses
pub mod WorkedCampaign
