pub mod Rows
pub mod Places
pub mod Moves
pub mod Placed
pub mod Standing
pub mod Demand3Holds
pub mod StolenFirst
