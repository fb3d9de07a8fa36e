pub mod Faults
pub mod Failing
