pub mod Scaled
pub mod Numbers
pub mod Lists
pub mod Multiples
