pub mod Chained
pub mod Picking
pub mod Placed
