pub mod Kept
pub mod Laws
pub mod Sessions
pub mod Continuations
pub mod SessionEnds
pub mod Texts
pub mod Probes
pub mod Stocks
