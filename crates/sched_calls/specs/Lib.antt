pub mod Replies
pub mod Serves
pub mod ServedRows
