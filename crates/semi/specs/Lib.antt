pub mod Ends
pub mod Settings
pub mod Report
