pub mod Rows
pub mod Written
pub mod Packing
pub mod Laid
