pub mod SortedTells
pub mod Places
pub mod DueRuns
pub mod WayEnds
pub mod PlansAfter
