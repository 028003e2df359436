pub mod Cookie
pub mod Examples
pub mod Parts
pub mod Tags
pub mod Head
pub mod HeadParts
pub mod Laws
