pub mod Found
pub mod LastWriters
pub mod Noted
pub mod Past
pub mod Tested
pub mod Written
