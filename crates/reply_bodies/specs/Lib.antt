pub mod Members
pub mod Words
pub mod Schedules
pub mod Groups
pub mod Executions
pub mod Bodies
pub mod BodyRows
pub mod Messages
