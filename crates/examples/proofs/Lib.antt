pub mod Computed
