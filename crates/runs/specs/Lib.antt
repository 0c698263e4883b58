pub mod Tables
pub mod Numbering
pub mod Outcomes
pub mod Sheet
pub mod Tied
