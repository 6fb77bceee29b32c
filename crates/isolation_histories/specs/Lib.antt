pub mod Events
pub mod Halves
pub mod Laws
pub mod Logged
pub mod Offered
pub mod Snapshot
pub mod Split
pub mod Splittable
