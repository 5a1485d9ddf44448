pub mod Vectors
pub mod Sets
pub mod Wanted
pub mod Canonical
pub mod Reach
pub mod Working
