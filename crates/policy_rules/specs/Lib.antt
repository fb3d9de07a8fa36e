pub mod LastAttempt
pub mod Shards
pub mod Given
pub mod ExampleRows
