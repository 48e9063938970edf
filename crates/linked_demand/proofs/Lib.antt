-- Reading order. Each file says in its first line what it shows.
-- Tools: Keeping, Passing, Keyed, Dealing, Putting, PlaceOrder, Marked, Counting.
-- The lineup: CalledRows, ClaimSpans, Lining, Seating, Lined.
-- Open wishes and flags: Opens, Falling, Closing, Flagging, Waiting, AnyOpen, Boarding, Shutting.
-- How far seats reach: Reach, Leaving; the proposed wishes: Walking, Fronting, Listing, Fronted, NeedNoSeat.
-- Rows of the schools: RowsTo, RowsRight, FirstBoarders, Items, RowSteps, RowFronts, Demanded, Naming.
-- A wish is closed: Moving, Ticking, Marking, Staying; the end of a row falls: Cutting, Telling.
-- A bar falls: OneFall, Answered, RoundFalls, TickLaw, Spending.
-- Who has a bed: Rungs, RungSteps, RowRungs, BareRows, RowBeds, HousedRows, HousedWishes, HousedMarks, HousedFalls;
-- the answers: KeptAnswers; the beds that are lent: Lent.
-- The system as a whole: BarEach, Rounding, and last Lowered.
pub mod Answered
pub mod AnyOpen
pub mod BareRows
pub mod BarEach
pub mod CalledRows
pub mod ClaimSpans
pub mod Boarding
pub mod Closing
pub mod Counting
pub mod Cutting
pub mod Dealing
pub mod Demanded
pub mod Falling
pub mod FirstBoarders
pub mod Flagging
pub mod Fronted
pub mod Fronting
pub mod HousedFalls
pub mod HousedMarks
pub mod HousedRows
pub mod HousedWishes
pub mod Items
pub mod Keeping
pub mod KeptAnswers
pub mod Keyed
pub mod Leaving
pub mod Lent
pub mod Lined
pub mod LineWalk
pub mod Lining
pub mod Listing
pub mod Lowered
pub mod Marked
pub mod Marking
pub mod NeedNoSeat
pub mod Moving
pub mod Naming
pub mod OneFall
pub mod Opens
pub mod Passing
pub mod PlaceOrder
pub mod Putting
pub mod Reach
pub mod RoundFalls
pub mod RowFronts
pub mod RowRungs
pub mod RowSteps
pub mod RowsRight
pub mod RowsTo
pub mod Rounding
pub mod RowBeds
pub mod RungSteps
pub mod Rungs
pub mod Seating
pub mod Shutting
pub mod Spending
pub mod Staying
pub mod Telling
pub mod TickLaw
pub mod Ticking
pub mod Walking
pub mod Waiting
