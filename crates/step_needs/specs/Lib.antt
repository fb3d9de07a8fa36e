pub mod Tenures
pub mod Entries
pub mod Writes
