pub mod Moments
pub mod TearLemmas
pub mod FormatLemmas
pub mod AppendLemmas
pub mod PieceLemmas
pub mod OpenLemmas
