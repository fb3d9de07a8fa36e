pub mod SendLemmas
pub mod GivenLemmas
mod LeadLemmas
mod FitLemmas
mod ActLemmas
mod WentLemmas
mod StepLemmas
mod AttemptLemmas
mod WholeLemmas
mod EnterLemmas
mod OfferLemmas
