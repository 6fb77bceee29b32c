pub mod Searches
pub mod UnderWay
pub mod Ways
