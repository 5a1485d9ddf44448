pub mod Number
pub mod Form
pub mod Arrays
pub mod Answers
pub mod Writing
