pub mod AskFacts
pub mod InFlightFacts
pub mod LaidWays
pub mod SearchFacts
pub mod ReasonFacts
pub mod TrialFacts
pub mod OutFacts
