pub mod Stock
pub mod Laws
