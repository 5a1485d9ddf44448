pub mod RowLaws
pub mod FlatLaws
pub mod TestLaws
pub mod FallLaws
pub mod Membership
pub mod Asking
pub mod Settled
pub mod Chains
