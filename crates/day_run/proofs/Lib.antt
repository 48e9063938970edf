pub mod DayEnds
pub mod SameCampaigns
