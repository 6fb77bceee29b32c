pub mod Chains
pub mod Picked
