pub mod Posed
pub mod Problem
