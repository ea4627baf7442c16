pub mod Symbols
pub mod AlphabetLemmas
pub mod TextLemmas
pub mod TextLaws
pub mod PieceLaws
