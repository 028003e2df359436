pub mod Folded
pub mod Laws
