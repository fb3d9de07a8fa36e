pub mod Refusals
pub mod Words
pub mod Rows
pub mod Objects
pub mod Contents
pub mod Members
pub mod Bodies
pub mod Validity
