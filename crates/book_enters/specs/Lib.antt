pub mod Behind
pub mod Finding
