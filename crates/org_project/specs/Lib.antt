pub mod Flags
pub mod Below
pub mod Topmost
pub mod Blocked
pub mod Laws
pub mod Examples
