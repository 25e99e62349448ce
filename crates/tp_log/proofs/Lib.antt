mod Turns
pub mod WordFacts
pub mod Forms
pub mod PlanFacts
pub mod CauseFacts
pub mod RecordFacts
pub mod LineFacts
pub mod EventWords
pub mod BoundLines
pub mod LogLines
pub mod Order
pub mod Items
pub mod LogFacts
pub mod GatherFacts
