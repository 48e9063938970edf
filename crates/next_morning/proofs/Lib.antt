-- Reading order: RowsMore; StatusRows; SameDossier; Faultless and InRange (what a check asks of tables);
-- Mornings (the laws); WorkedMorning (their witnesses); DatedRows, DatedFaultless, DatedMornings and
-- WorkedDates (the same where offers have deadlines); ReadStates and WorkedReads (what final lines are
-- read as); RowsBack (what `next_rows` makes of the evening alone).
pub mod DatedFaultless
pub mod DatedMornings
pub mod DatedRows
pub mod Faultless
pub mod InRange
pub mod Mornings
pub mod ReadStates
pub mod RowsBack
pub mod RowsMore
pub mod SameDossier
pub mod StatusRows
pub mod WorkedDates
pub mod WorkedMorning
pub mod WorkedReads
