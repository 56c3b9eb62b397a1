pub mod FirstNotZeros
pub mod LeftOver
pub mod Coefficients
pub mod CommonZero
pub mod Reached
pub mod HandedZero
