pub mod Given
pub mod Headline
pub mod InOrder
