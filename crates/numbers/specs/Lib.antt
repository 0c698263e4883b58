pub mod Numbers
pub mod Operands
pub mod Reading
