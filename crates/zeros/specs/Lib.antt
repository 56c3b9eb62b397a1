pub mod CommonZero
pub mod HandedZero
