pub mod WordFacts
pub mod AddressFacts
pub mod NumberedFacts
pub mod SentEvents
pub mod MachineParts
pub mod Gathered
pub mod ListFacts
