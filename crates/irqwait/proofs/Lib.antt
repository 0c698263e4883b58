pub mod Places
pub mod Cases
pub mod Keeps
pub mod Laws
pub mod Returns
pub mod Rows
