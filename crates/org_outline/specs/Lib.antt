pub mod Bodies
pub mod Laws
pub mod Levels
pub mod Parents
pub mod Places
pub mod Tree
