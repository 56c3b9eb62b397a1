pub mod Sigma
pub mod Order
pub mod Groups
pub mod Scale
pub mod Polar
