pub mod Near
pub mod Stamps
