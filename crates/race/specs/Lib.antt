pub mod Answer
pub mod Lanes
pub mod Machine
pub mod Script
pub mod SeatedLane
pub mod WholeTurns
pub mod Winner
