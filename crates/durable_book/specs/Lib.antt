pub mod Acts
pub mod Causes
pub mod Doubts
pub mod Faults
pub mod Keeping
pub mod Steps
