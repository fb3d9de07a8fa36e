pub mod Bytes
pub mod Lists
pub mod Words
pub mod Ids
pub mod Moments
