-- The half of memory that an address lies in, read by name.
pub mod Halves
