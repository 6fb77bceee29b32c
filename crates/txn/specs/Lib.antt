pub mod Arcs
pub mod Choices
pub mod History
pub mod Refusals
pub mod Transactions
