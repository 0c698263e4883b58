pub mod Queue
pub mod Lent
pub mod Steps
pub mod Calls
pub mod History
