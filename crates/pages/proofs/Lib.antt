-- An address as the start of its half of memory and an offset.
pub mod Halves
