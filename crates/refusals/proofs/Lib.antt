-- The refusals of an entry.
pub mod Entries
