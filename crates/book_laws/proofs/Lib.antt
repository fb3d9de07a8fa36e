pub mod SweptLeaves
pub mod FirstSteps
pub mod EntriesExact
pub mod BeginsDiffer
mod Tables
mod Places
mod MomentsRise
mod TokensKept
mod Passing
mod Floors
mod Fronts
mod Spans
mod Searches
mod Pairs
mod Covers
mod Settled
mod CaughtSteps
mod NewCalls
mod Standings
mod FiledEdits
mod Numbers
mod OutcomesStay
mod ChosenCome
mod CountsAdd
mod ContentsStay
mod PostedLetters
mod LetteredSteps
mod LettersOwed
