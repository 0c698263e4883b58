pub mod View
pub mod Lent
pub mod Parts
pub mod Blank
