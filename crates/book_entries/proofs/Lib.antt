pub mod SoundLemmas
pub mod BeginLemmas
pub mod DateLemmas
pub mod CloseLemmas
pub mod EndLemmas
