pub mod Telling
pub mod Keeps
