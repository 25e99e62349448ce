pub mod Saved
pub mod Marks
pub mod WorkingRoom
pub mod Sound
pub mod PlainState
pub mod Plain
