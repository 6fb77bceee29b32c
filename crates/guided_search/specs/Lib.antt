pub mod Believed
pub mod Laws
