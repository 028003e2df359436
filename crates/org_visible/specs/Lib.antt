pub mod Unseen
pub mod Clean
pub mod Visible
pub mod JsonReading
pub mod Laws
pub mod Examples
