pub mod Heads
pub mod Slots
pub mod Causes
pub mod Accepted
pub mod Fields
pub mod AllSamples
pub mod Longest
