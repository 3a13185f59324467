mod Wide
mod Powers
mod Halves
mod LowWords
