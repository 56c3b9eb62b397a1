pub mod Gcd
pub mod Projection
pub mod Floats
pub mod Conversion
pub mod Accuracy
