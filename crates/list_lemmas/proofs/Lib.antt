pub mod Counts
pub mod Ends
pub mod Filters
pub mod Keys
pub mod Members
pub mod Numbers
pub mod Options
pub mod Places
