pub mod Tellers
pub mod Answers
pub mod Takes
pub mod Scripts
