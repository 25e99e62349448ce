pub mod CountedFacts
pub mod StockFacts
pub mod CountFacts
pub mod EmptyFacts
