pub mod Dates
pub mod NextInstants
pub mod NextLaws
pub mod StepLaws
