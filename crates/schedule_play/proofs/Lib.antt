mod PlayLemmas
mod PlantLemmas
mod RunLemmas
mod TextLemmas
