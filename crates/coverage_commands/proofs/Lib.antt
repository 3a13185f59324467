mod AnswerLemmas
mod CountLemmas
mod OneAnswer
mod ReadyLemmas
mod ServedLemmas
mod TrialLemmas
pub mod Laws
