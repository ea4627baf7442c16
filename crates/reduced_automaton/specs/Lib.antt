pub mod Frames
pub mod Framings
pub mod Paths
pub mod Automaton
