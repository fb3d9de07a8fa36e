pub mod WriteLemmas
pub mod PastLemmas
