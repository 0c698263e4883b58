pub mod Waits
pub mod Lent
pub mod Steps
pub mod Calls
