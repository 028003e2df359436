pub mod Positions
pub mod Documents
pub mod Outcomes
pub mod Known
pub mod Reached
pub mod Laws
pub mod Examples
