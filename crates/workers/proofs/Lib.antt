pub mod Zips
pub mod Moves
pub mod DealtLaws
