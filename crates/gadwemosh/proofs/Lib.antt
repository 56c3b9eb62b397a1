mod Places
pub mod Demand3
pub mod AllSamples
