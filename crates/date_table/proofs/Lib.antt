pub mod NumberLists
pub mod ShardPlaces
pub mod TableLemmas
