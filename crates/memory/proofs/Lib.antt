pub mod Puts
pub mod ViewLaws
pub mod RingStores
pub mod FreshLaws
pub mod PartLaws
pub mod Wholes
pub mod Lent
