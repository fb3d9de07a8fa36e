pub mod Numbers
pub mod Search
pub mod Heap
pub mod Walk
