pub mod Tables
pub mod Products
pub mod Quotients
