pub mod Dirty
pub mod Explaining
pub mod False
pub mod LastPlaces
pub mod Lies
