pub mod Sendings
pub mod Swept
pub mod Numbers
pub mod Ready
pub mod Places
pub mod Going
pub mod Parts
