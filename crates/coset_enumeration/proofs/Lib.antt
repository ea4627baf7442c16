pub mod TurnLaws
pub mod RootLaws
pub mod DefinedLaws
