pub mod Held
pub mod Order
pub mod Compare
pub mod Selecting
pub mod Emitting
pub mod Settled
