-- Reading order. Each file says in its first line what it shows.
-- The morning: LatestCeilings, LastBars, DaysAnswers, Listed, LapsedOffers, Touching.
-- A pass and its answers: OnePass, ChangedMarks, BesideChanges, OnceEach, MarkPairs.
-- Passes one after another: LaterPasses (who need not be asked again), Moved (whose wishes changed), WhoIsAsked,
-- PassesSoFar, PassEnds.
-- The whole day: DayEnds, DayPlaces, Stamps, SameDossier.
-- What is kept of passes and of days: KeptPasses, KeptDays. Where memory ran out: ToldPasses.
-- Laws of days: SameDays, DayLaws.
pub mod Listed
pub mod ChangedMarks
pub mod LapsedOffers
pub mod PassesSoFar
pub mod DaysAnswers
pub mod OnePass
pub mod MarkPairs
pub mod LatestCeilings
pub mod LastBars
pub mod PassEnds
pub mod SameDays
pub mod SameDossier
pub mod DayPlaces
pub mod Stamps
pub mod DayLaws
pub mod DayEnds
pub mod LaterPasses
pub mod Moved
pub mod BesideChanges
pub mod Touching
pub mod OnceEach
pub mod KeptPasses
pub mod ToldPasses
pub mod KeptDays
pub mod WhoIsAsked
