pub mod FirstNet
pub mod Records
pub mod Refusals
pub mod Fields
pub mod Demand3
pub mod AllSamples
