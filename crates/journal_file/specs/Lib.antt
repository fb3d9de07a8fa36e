pub mod Format
pub mod Journals
pub mod Ahead
