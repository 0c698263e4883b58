pub mod Fair
pub mod Demand3
