-- Reading order. Each file says in its first line what it shows.
-- Lists of numbers, orders and positions: Firsts, Positions. A market is lawful: Lawful.
-- A market is read: BelowCount, Reading, Listing, Stamping, Ordering, Meeting
-- (where the rows stand).
-- A market as a falling system: Held, Rounds, Filled; how it is solved: Seated, Led, Noting, Tied.
-- The solution: Stable, Best, SamePlaces, Existing, and last SamePlaced (the same candidates
-- have a place in every stable matching).
-- The market of a dossier: Choosing, InTurn, Owning, OneMore, Rankers, Walking (who lists a programme, as called),
-- Called, Calls (programme by programme), Ranking, Telling.
pub mod BelowCount
pub mod Best
pub mod Called
pub mod Calls
pub mod Choosing
pub mod Existing
pub mod Filled
pub mod Firsts
pub mod Held
pub mod InTurn
pub mod Lawful
pub mod Led
pub mod Listing
pub mod Meeting
pub mod Noting
pub mod OneMore
pub mod Ordering
pub mod Owning
pub mod Positions
pub mod Rankers
pub mod Ranking
pub mod Reading
pub mod Rounds
pub mod SamePlaced
pub mod SamePlaces
pub mod Seated
pub mod Stable
pub mod Stamping
pub mod Telling
pub mod Tied
pub mod Walking
