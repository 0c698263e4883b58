pub mod Rows
pub mod RoundTrip
pub mod Turns
pub mod Arms
pub mod Nexts
pub mod Whole
