-- Reading order. Each file says in its first line what it shows.
-- The ground of all: Walks (a campaign as a walk from moment to moment) and OneMark (what one
-- step can do to one mark).
-- Laws of marks: GoneStays, Holding, WaitingPlace, Kept.
-- Laws of turns, seats and beds: PassedOver, Beds, Room, Limits.
-- Days on which nobody answers: QuietDays.
-- Automatic days: Matchings, StableEvening, StableThere, AutomaticDay.
-- By computation: WorkedCampaign is the campaign; MetHere and CrossedHere have the witnesses,
-- Shown and ShownAnswers what is not promised.
pub mod AutomaticDay
pub mod Beds
pub mod CrossedHere
pub mod GoneStays
pub mod Holding
pub mod Kept
pub mod Limits
pub mod Matchings
pub mod MetHere
pub mod OneMark
pub mod PassedOver
pub mod QuietDays
pub mod Room
pub mod Shown
pub mod ShownAnswers
pub mod StableEvening
pub mod StableThere
pub mod WaitingPlace
pub mod Walks
pub mod WorkedCampaign
