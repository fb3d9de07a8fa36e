pub mod LetterRoom
pub mod Finishing
pub mod Ending
