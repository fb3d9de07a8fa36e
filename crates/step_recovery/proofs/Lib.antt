pub mod DamageLemmas
pub mod ReadingLemmas
