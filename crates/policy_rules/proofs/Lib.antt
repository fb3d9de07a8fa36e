pub mod GivenLemmas
mod ShardLemmas
