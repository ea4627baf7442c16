pub mod ReadLaws
pub mod PrintLaws
pub mod ReprintLaws
pub mod GraphLaws
