pub mod Rows
pub mod Emit
pub mod Select
