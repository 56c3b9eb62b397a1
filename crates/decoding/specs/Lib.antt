pub mod Numbers
pub mod Moves
pub mod Parts
