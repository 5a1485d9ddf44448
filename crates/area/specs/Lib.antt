pub mod Area
pub mod Records
