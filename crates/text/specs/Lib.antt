pub mod Words
pub mod Text
pub mod Parts
pub mod Told
pub mod Longest
pub mod Samples
