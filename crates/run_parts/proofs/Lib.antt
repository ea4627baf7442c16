pub mod FaultLemmas
pub mod InputLaws
pub mod MadeLaw
