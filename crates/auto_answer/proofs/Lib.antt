-- Reading order. Each file says in its first line what it shows.
-- One candidate: OwnMarks (only their own marks count), Bounds (how much they free).
-- All candidates, each once: Once, and then Answering, one answer beside those of all.
-- Laws: Freeing, LawsOfAnswers, Again (a second answer does nothing).
-- The candidates of some wishes, where all others have been answered for: NewOffers, the loop of
-- auto_some, which rests on Again. All who have a live wish: AnsweringAll, the loop of auto_all.
pub mod OwnMarks
pub mod Once
pub mod Bounds
pub mod Answering
pub mod LawsOfAnswers
pub mod Freeing
pub mod Again
pub mod NewOffers
pub mod AnsweringAll
