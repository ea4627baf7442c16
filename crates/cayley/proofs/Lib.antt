pub mod SideLaws
pub mod WholeLaws
pub mod RunLaws
pub mod PlacedClasses
pub mod Numberings
