pub mod StandingStates
pub mod Sound
pub mod Laws
