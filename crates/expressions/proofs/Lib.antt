pub mod RealSeconds
mod SpellingRows
