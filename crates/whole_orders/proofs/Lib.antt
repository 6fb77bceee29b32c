mod CutOff
mod Growing
pub mod Isolated
mod Steps
