pub mod Maps
pub mod Labels
pub mod Closing
