pub mod Adding
pub mod Answering
pub mod Answers
pub mod Ends
pub mod Finding
pub mod Lines
