pub mod Ids
pub mod Changes
pub mod Together
