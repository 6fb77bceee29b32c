pub mod Isolated
pub mod Laws
pub mod Left
