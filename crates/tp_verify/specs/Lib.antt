pub mod Words
pub mod Statuses
pub mod Machines
pub mod Checks
pub mod InOrder
