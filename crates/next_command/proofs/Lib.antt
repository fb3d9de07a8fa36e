mod LineLemmas
mod ResultLemmas
mod ZoneLemmas
