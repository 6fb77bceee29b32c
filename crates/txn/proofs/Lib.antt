pub mod Ids
pub mod Sessions
