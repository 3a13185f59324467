mod PlaceLemmas
mod TouchLemmas
mod MapLemmas
mod RangeLemmas
mod CoverLemmas
mod FaultLemmas
mod Passes
mod TabledLemmas
mod AllPlaces
mod OwnPlaces
mod Together
mod OneTable
mod NumberLemmas
mod CodeLemmas
mod DecodedLemmas
pub mod Laws
