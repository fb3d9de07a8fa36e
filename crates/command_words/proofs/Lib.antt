pub mod ShapeLemmas
pub mod NumberLemmas
pub mod WordLemmas
