pub mod Asked
pub mod Lines
