pub mod Held
pub mod Laws
pub mod Apart
pub mod Drops
pub mod Rows
