pub mod Sum
pub mod Test
pub mod Largest
pub mod Instances
