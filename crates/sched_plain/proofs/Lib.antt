pub mod HistoryLemmas
pub mod LedgerLemmas
mod Histories
