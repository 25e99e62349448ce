pub mod TellableReasons
pub mod Closes
pub mod RoomRows
pub mod TreeProgress
pub mod Ranges
pub mod TreeLimits
