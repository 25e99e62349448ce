pub mod InsertFacts
pub mod OrderFacts
pub mod VectorFacts
pub mod MarkFacts
