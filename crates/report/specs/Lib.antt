pub mod Gains
pub mod Kept
pub mod Answers
