pub mod NearQuery
pub mod Held
pub mod Index
pub mod Near
