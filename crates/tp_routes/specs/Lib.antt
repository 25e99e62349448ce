pub mod Numbers
pub mod Tables
pub mod FilledRooms
pub mod Laws
pub mod Index
