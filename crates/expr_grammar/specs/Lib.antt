pub mod Answers
pub mod Reading
pub mod WordsLeft
pub mod Items
pub mod Parts
pub mod Cron
pub mod ValueSets
pub mod Spelled
