pub mod Tells
pub mod Tab
pub mod Search
pub mod Entries
pub mod Each
pub mod Flags
