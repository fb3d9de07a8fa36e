pub mod Finished
pub mod DateLaws
pub mod EntryOrder
pub mod RevisionLaws
pub mod LivingLaws
pub mod FinishedLaws
