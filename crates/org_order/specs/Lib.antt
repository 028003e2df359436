pub mod Order
pub mod Groups
pub mod Laws
pub mod Examples
