pub mod SoundLemmas
pub mod RuleLemmas
pub mod StepLemmas
