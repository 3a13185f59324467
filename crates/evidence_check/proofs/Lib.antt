mod CallLemmas
mod CheckLemmas
mod ClaimLemmas
mod CountLemmas
mod EntryLemmas
mod FactLemmas
mod FieldLemmas
mod PhaseLemmas
mod VerifiedLemmas
mod VisitLemmas
pub mod Laws
