-- Reading order. Each file says in its first line what it shows.
-- Of a kinder dossier: Places, Further (what is kept), Passing and Answering (by which steps),
-- KinderDays.
-- Of a better place: Neighbours, OnePlaceUp.
-- Of what is never read: Reranked (what days read of wishes), Unread, UnreadDays.
-- Of a wish that may be struck out: StruckLists, Struck, StruckBars, StruckCampaign.
pub mod Answering
pub mod Further
pub mod KinderDays
pub mod Neighbours
pub mod OnePlaceUp
pub mod Passing
pub mod Places
pub mod Reranked
pub mod Struck
pub mod StruckBars
pub mod StruckCampaign
pub mod StruckLists
pub mod Unread
pub mod UnreadDays
