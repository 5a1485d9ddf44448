pub mod NumberText
pub mod TextSize
pub mod Computed
pub mod UniqueText
