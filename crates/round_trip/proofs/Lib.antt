mod TableLemmas
mod SetLemmas
mod PlainLemmas
mod CallLemmas
mod LawLemmas
mod RaceLemmas
mod RacedLemmas
