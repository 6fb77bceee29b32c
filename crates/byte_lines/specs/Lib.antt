pub mod Exits
pub mod Faults
pub mod LineReaders
pub mod Lines
pub mod Memory
