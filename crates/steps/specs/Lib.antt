pub mod Stealing
pub mod Switching
