pub mod NumberLaws
pub mod CallLaws
pub mod Settled
