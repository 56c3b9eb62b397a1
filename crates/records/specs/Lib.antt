pub mod Table
pub mod Reading
pub mod Fields
pub mod Causes
pub mod Samples
pub mod Longest
