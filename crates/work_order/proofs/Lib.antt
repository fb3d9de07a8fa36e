mod Greatest
mod Searches
pub mod RevisionEdits
mod Spans
mod RowSteps
pub mod Completed
pub mod Dated
pub mod FirstEntries
pub mod Followed
pub mod Unopened
pub mod LivingAct
pub mod FinishedSteps
