mod ShiftedSets
pub mod DayNumbers
mod MonthDays
mod Fitting
pub mod InTime
mod Minutes
