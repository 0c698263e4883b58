pub mod Cases
pub mod Keeps
pub mod Laws
pub mod PollLaws
pub mod Rows
