pub mod Lines
pub mod TakesFacts
pub mod NextLines
pub mod ReadLines
