pub mod Told
pub mod Contents
pub mod Sound
pub mod Stands
pub mod Answers
pub mod Touching
pub mod Entering
pub mod Legal
