pub mod Coincide
pub mod Apart
pub mod Part
pub mod Follow
pub mod Returns
