pub mod CampaignDays
pub mod CampaignLaws
