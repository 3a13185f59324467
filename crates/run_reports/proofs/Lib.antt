mod DrainedLemmas
mod ReportLemmas
