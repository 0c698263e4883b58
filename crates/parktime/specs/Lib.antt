pub mod Deadlines
pub mod Steps
pub mod Calls
