mod Parts
mod MarksLemmas
mod FieldLemmas
mod SpellLemmas
mod LoopLemmas
mod ModuleLemmas
mod ModuleLoop
mod HeadingLemmas
mod FileLemmas
mod AnswerLemmas
mod DifferenceLemmas
mod FilesLemmas
mod LawLemmas
mod SameFiles
mod UnionLemmas
pub mod Laws
