pub mod Habits
pub mod Urgencies
pub mod Graphs
pub mod Examples
