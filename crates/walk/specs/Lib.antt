pub mod Control
pub mod Grounds
pub mod Walks
