pub mod ListSteps
pub mod NameFacts
pub mod MoveSteps
pub mod PlaceFacts
pub mod SpanSteps
mod LastPlan
mod AloneFacts
