pub mod TouchLemmas
pub mod DateLemmas
pub mod CancelLemmas
pub mod FinishedLemmas
pub mod RedateLemmas
pub mod ChangeLemmas
