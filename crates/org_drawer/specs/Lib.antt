pub mod Clock
pub mod Effort
pub mod Examples
pub mod Laws
pub mod Node
pub mod Planning
pub mod Spelled
