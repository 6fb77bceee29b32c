pub mod Collectors
pub mod Delivers
