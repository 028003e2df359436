pub mod Decisions
pub mod Examples
pub mod Marks
