pub mod Spans
pub mod Laying
pub mod Seen
