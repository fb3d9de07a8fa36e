pub mod ContentLemmas
pub mod TouchedLemmas
pub mod WorkLemmas
pub mod ChangeLemmas
pub mod EnterLemmas
pub mod BeginningLemmas
pub mod PostLemmas
