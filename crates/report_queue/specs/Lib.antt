pub mod Reports
pub mod Rule
pub mod Seats
pub mod Rings
pub mod Ends
