pub mod Latest
pub mod Laws
pub mod Offers
