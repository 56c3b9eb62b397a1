pub mod Limits
pub mod Counts
pub mod Scales
pub mod Determinants
pub mod Frames
