pub mod CompleteLemmas
pub mod FindLemmas
