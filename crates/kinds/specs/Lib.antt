pub mod Kinds
pub mod Heads
pub mod Counts
pub mod Frames
pub mod Scales
