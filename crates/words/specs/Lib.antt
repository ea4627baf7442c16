pub mod Alphabet
pub mod WordText
pub mod Pieces
