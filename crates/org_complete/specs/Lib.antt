pub mod Chained
pub mod Completion
pub mod Examples
pub mod Laws
pub mod Parts
pub mod Reading
pub mod Reasons
pub mod Written
