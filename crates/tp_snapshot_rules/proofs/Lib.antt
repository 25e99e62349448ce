pub mod Neighbours
pub mod TestFacts
pub mod CopyRules
pub mod WaitingRules
pub mod FirstRules
