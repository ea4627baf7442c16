pub mod PathLaws
pub mod DepthLaws
pub mod NextPaths
pub mod ReaderLaws
pub mod ReadingLaws
pub mod MarkLaws
pub mod Decisions
pub mod FrameLaws
