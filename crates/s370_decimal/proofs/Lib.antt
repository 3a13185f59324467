mod OnData
mod Powers
mod Refusals
mod Shifting
mod Sources
mod Workings
