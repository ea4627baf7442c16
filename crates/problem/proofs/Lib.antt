pub mod Products
pub mod RelatedByValue
