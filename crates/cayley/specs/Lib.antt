pub mod Tables
pub mod Sides
pub mod Whole
pub mod Run
pub mod Placing
