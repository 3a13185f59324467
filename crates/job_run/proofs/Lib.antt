mod AreaLemmas
mod BackLemmas
mod BeforeLemmas
mod BoundLemmas
mod CrewLemmas
mod EachLemmas
mod EquipLemmas
mod ExactLemmas
mod JoinLemmas
mod PhaseLemmas
mod RangeLemmas
mod SessionLemmas
mod SlotLemmas
mod TaskLemmas
pub mod Laws
