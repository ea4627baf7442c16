pub mod Presented
pub mod Codes
pub mod Added
