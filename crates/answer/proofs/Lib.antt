pub mod ShownStops
pub mod WalkedText
pub mod LineLaws
pub mod PrintLaws
pub mod Saying
pub mod Theorems
pub mod Reported
