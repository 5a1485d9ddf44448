pub mod Tells
pub mod IntegerLaws
pub mod NumberLaws
pub mod WordLaws
pub mod PlaceLaws
pub mod WeightLaws
pub mod RefusalLaws
pub mod Settled
