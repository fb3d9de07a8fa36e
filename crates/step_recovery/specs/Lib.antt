pub mod Recovery
pub mod Faults
