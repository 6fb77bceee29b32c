pub mod Keeping
pub mod Overruled
pub mod TakenOut
