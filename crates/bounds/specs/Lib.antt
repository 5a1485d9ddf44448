pub mod Bounds
pub mod Limits
pub mod Written
