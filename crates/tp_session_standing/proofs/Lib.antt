pub mod FeederFacts
pub mod Refilled
pub mod PlanLists
pub mod GoesOn
