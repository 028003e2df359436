pub mod Sums
pub mod Measures
pub mod Texts
pub mod Laws
