pub mod Arrays
pub mod Named
