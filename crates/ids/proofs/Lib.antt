pub mod Packing
pub mod IdLaws
