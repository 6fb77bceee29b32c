pub mod Holding
pub mod Laws
