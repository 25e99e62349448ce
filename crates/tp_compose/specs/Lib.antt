pub mod Racks
pub mod TypeRules
pub mod EndRules
pub mod Broken
pub mod Flat
pub mod Texts
pub mod Walks
