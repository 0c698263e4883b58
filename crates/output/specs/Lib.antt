pub mod Output
pub mod Places
