pub mod Draws
pub mod Engines
pub mod Machines
pub mod Kept
pub mod Scripts
pub mod Cases
pub mod SoakCounts
pub mod Summaries
