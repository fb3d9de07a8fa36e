pub mod Serving
pub mod Asking
pub mod Turns
pub mod Keeping
pub mod Batch
pub mod Running
