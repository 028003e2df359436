pub mod Letters
pub mod Words
pub mod Counts
pub mod Names
pub mod Laws
pub mod Examples
