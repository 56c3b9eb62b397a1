pub mod All
pub mod Largest
pub mod Laws
pub mod Ring
pub mod Signed
pub mod Sums
pub mod Instances
