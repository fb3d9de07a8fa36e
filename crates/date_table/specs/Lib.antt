pub mod Dates
pub mod Tables
pub mod Shards
