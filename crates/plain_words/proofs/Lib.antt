pub mod Booleans
pub mod Options
pub mod ListLemmas
mod WordLemmas
mod IdLemmas
