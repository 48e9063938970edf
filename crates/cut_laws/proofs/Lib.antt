-- Reading order. Each file says in its first line what it shows.
-- What a pass reads: Unstamped (a state without its stamps says the same of every word).
-- Stamps decide nothing: Steps (each step of a day), then Days (the whole day, law `stamps`).
-- Deadlines read open offers alone: Dated (what it means), DatedSteps (answers and offers), DatedLapses.
-- A campaign is cut: CutRows (its ceilings and answers by day), Cut (its days are those that follow; laws
-- `offers`, `cut`, `alike`), and last Rest (whatever days it has, law `rest`).
-- Its dossier is a valid one: Accepted, ValidCut.
-- By computation: WorkedCampaign.
pub mod Accepted
pub mod Cut
pub mod CutRows
pub mod Dated
pub mod DatedLapses
pub mod DatedSteps
pub mod Days
pub mod Rest
pub mod Steps
pub mod Unstamped
pub mod ValidCut
pub mod WorkedCampaign
