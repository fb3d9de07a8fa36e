pub mod Devices
pub mod Digits
pub mod Memory
pub mod Framing
pub mod Heads
pub mod Response
