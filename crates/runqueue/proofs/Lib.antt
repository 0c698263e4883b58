pub mod Places
pub mod RingLaws
pub mod Laws
pub mod Rows
