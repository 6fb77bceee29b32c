pub mod Commands
pub mod Failures
pub mod Names
pub mod Reading
pub mod Runs
pub mod Shows
pub mod Texts
pub mod Work
