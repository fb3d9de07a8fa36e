pub mod Piles
pub mod Posts
pub mod Shown
