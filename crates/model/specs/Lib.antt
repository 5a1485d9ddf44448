pub mod Bytes
pub mod Models
pub mod Limits
pub mod Written
pub mod Answers
pub mod Plain
pub mod Outlines
