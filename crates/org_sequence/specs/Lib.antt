pub mod Sums
pub mod Parts
pub mod Shape
pub mod Falls
