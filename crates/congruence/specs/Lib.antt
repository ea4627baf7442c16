pub mod Added
pub mod Engines
pub mod Solution
pub mod Verdicts
pub mod Classes
