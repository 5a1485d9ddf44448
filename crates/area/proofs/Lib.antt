pub mod RecordLaws
pub mod KeepLaws
pub mod CoverLaws
pub mod HoldingLaws
pub mod Computed
