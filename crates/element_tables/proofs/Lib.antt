pub mod Elements
pub mod Alike
pub mod OneNumber
pub mod ClassEquivalence
