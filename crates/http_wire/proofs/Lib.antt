mod ByteLemmas
pub mod DeviceLemmas
mod HeadLemmas
mod HeaderLemmas
mod FrameLemmas
mod PhraseLemmas
