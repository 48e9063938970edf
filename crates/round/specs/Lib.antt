pub mod KeptFalls
pub mod PassLaws
pub mod Picks
pub mod Telling
