-- Reading order. Each file says in its first line what it shows.
-- Text to chain: Cutting, Numbering, Saying (what lines say, the reader's invariant), Counting.
-- The first fault without memory: Faulting.
-- Chain to text and back: WordLines, ReadBack, ReadsWritten (what is read is in the grammar).
-- A chain is tested: Naming (wishes by their ids, ranks by their wishes), Testing (line by line
-- at the present bars), Lowering (lines and passes, one after another), Schools, Ending.
-- Worked texts, by computation: WorkedCases.
pub mod Cutting
pub mod Numbering
pub mod Saying
pub mod WorkedCases
pub mod Naming
pub mod Testing
pub mod Lowering
pub mod Ending
pub mod Counting
pub mod Faulting
pub mod Schools
pub mod WordLines
pub mod ReadBack
pub mod ReadsWritten
pub mod Indexed
