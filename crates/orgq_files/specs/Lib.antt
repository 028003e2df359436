pub mod Examples
pub mod Keywords
pub mod Settings
