pub mod Types
pub mod Limits
pub mod Demands
pub mod Answers
pub mod Calls
pub mod Tests
pub mod Rules
pub mod Falls
