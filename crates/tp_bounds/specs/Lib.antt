pub mod Sheets
pub mod Words
pub mod Lines
pub mod Trees
