pub mod Ends
pub mod Laws
pub mod Refuted
pub mod Rewriting
pub mod Strict
pub mod Times
