mod MomentLemmas
pub mod TenureLemmas
pub mod EntryLemmas
pub mod WriteLemmas
