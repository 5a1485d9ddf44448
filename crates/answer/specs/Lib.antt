pub mod Says
pub mod Printed
pub mod Shown
