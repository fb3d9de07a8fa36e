pub mod CivilTime
pub mod Fit
pub mod First
pub mod Search
pub mod Levels
