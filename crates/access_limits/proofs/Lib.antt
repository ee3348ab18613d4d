-- The halves of memory.
pub mod Halves
