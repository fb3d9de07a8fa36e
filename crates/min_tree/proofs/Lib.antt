pub mod HeapLemmas
pub mod WalkLemmas
pub mod LeastLemmas
