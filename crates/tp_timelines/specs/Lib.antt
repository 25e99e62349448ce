pub mod Orders
pub mod Inserts
pub mod Inside
