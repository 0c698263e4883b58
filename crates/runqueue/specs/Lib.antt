pub mod Ring
pub mod Lent
pub mod Steps
pub mod Calls
