pub mod StageLaws
pub mod TurnLaws
pub mod NodeLaws
