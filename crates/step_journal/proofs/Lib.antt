pub mod NeedLemmas
