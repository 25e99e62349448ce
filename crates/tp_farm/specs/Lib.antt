pub mod MachineChoice
pub mod Addresses
pub mod Numbered
pub mod Farms
pub mod Inside
pub mod Scripts
pub mod Lists
