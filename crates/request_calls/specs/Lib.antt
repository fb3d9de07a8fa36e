pub mod Routes
pub mod Queries
pub mod Ids
pub mod Moments
pub mod Calls
pub mod Validity
