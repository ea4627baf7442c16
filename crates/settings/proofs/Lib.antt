pub mod Faultless
pub mod Numbers
pub mod Semi
pub mod OneReading
