pub mod Reply
pub mod Answers
pub mod Contract
pub mod Run
pub mod Sizes
