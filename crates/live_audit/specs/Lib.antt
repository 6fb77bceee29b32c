pub mod CoreState
pub mod Live
pub mod Moments
pub mod Running
pub mod Sides
pub mod Takes
pub mod Told
pub mod Truth
