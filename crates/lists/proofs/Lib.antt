pub mod Basics
pub mod TabLaws
pub mod SearchLaws
pub mod EntriesLaws
pub mod EachLaws
pub mod FlagLaws
