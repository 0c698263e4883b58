pub mod Model
pub mod Sound
pub mod Waits
pub mod Steps
pub mod Switch
pub mod Reads
pub mod Calls
