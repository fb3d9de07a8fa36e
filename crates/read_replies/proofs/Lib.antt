pub mod LetterLemmas
pub mod GroupLemmas
