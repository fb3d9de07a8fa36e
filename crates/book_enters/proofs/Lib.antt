pub mod FollowLemmas
pub mod EnterLemmas
pub mod FindLemmas
