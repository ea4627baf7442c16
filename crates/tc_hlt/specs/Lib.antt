pub mod Tracing
pub mod Stage
