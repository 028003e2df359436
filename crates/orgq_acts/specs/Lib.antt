pub mod Amending
pub mod Found
