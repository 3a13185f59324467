mod OpTable
mod Words
pub mod Laws
