pub mod ReportLemmas
pub mod UniqueReport
pub mod RunLaws
pub mod EndLaws
pub mod PassLaws
