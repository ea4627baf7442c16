pub mod DefineLaws
pub mod DrawnLaws
pub mod GrowLaws
pub mod LookLaws
pub mod RowLaws
pub mod StartLaws
pub mod TurnLaws
pub mod RelationLaws
