pub mod Chains
pub mod Answer
