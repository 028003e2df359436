pub mod Bytes
pub mod Changes
pub mod Laws
pub mod Examples
pub mod Settled
