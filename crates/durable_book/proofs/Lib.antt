pub mod ActLemmas
pub mod ClosingLemmas
pub mod DoubtLemmas
pub mod EntryLemmas
pub mod RuleLemmas
pub mod TakingLemmas
