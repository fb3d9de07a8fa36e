pub mod Needs
pub mod Files
pub mod Laws
