mod Parts
mod RunLemmas
