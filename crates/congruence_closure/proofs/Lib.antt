pub mod LabelLaws
pub mod ClosingLaws
