pub mod Laws
pub mod Walks
