pub mod Powers
pub mod PowerSteps
pub mod PowerMarks
