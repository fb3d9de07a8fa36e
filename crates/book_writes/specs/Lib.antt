pub mod Touching
pub mod Dating
pub mod Cancelling
pub mod Redating
pub mod Keeping
