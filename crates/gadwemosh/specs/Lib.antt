pub mod Calls
pub mod Projections
pub mod Demand3
pub mod Samples
