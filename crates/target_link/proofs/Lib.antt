mod DayLemmas
mod KeywordLemmas
mod VerdictLemmas
