pub mod FrontLaws
pub mod Calls
pub mod Going
pub mod Halving
