pub mod Events
pub mod Contents
pub mod Calls
pub mod Replacing
