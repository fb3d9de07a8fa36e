pub mod RecordLemmas
pub mod ChainLemmas
pub mod ReadingLemmas
pub mod ExampleLemmas
