pub mod Meanings
pub mod Open
pub mod Displacement
pub mod LooseLoop
pub mod Answered
pub mod KeptPlanner
