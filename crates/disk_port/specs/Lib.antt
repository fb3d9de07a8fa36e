pub mod Writes
pub mod Crashes
pub mod Past
pub mod Memory
pub mod Places
