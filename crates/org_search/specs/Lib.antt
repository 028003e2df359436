pub mod Built
pub mod Examples
pub mod Folded
pub mod Holds
pub mod Refused
pub mod Typed
