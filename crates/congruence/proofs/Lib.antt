pub mod ViewLaws
pub mod LaneLaws
pub mod ElementTasks
pub mod EngineGraphs
