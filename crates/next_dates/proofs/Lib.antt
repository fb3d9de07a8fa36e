mod Firsts
pub mod LastItems
pub mod Tables
mod Entered
pub mod ItemSteps
pub mod Cuts
mod Completions
pub mod NextComing
pub mod Contents
pub mod NextSteps
