pub mod Parts
pub mod Demand2
pub mod Projects
pub mod SheetRows
pub mod ShutOut
pub mod Coincidence
pub mod Tied
