pub mod CaseByCase
pub mod FullSchools
pub mod OrderLengths
pub mod Seatless
pub mod WhatIsSaid
