pub mod Output
pub mod Known
