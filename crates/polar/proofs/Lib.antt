pub mod Sigma
pub mod Order
pub mod Diagonal
pub mod Scale
pub mod Value
