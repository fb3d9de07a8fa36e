pub mod BehindLemmas
pub mod PlanLemmas
pub mod FollowLemmas
pub mod ServeLemmas
pub mod CauseLemmas
