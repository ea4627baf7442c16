pub mod Limits
pub mod Status
pub mod Input
pub mod Taken
pub mod Made
