pub mod FactInside
pub mod FactKind
pub mod FactSet
pub mod Lists
pub mod Meaning
pub mod Published
