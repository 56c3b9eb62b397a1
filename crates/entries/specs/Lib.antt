pub mod Frame
pub mod Form
pub mod Entries
pub mod Rows
