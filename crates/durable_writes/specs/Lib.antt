pub mod Words
pub mod Choosing
pub mod Entering
pub mod Leading
pub mod Writing
pub mod Zoning
