pub mod Tests
pub mod Integers
pub mod Numbers
pub mod Words
pub mod Places
pub mod Weights
pub mod Refusals
