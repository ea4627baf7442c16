pub mod ClassLists
pub mod Indexes
pub mod Rewriting
pub mod ListedRules
pub mod ElementLists
