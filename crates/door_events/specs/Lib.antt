-- The write that lent bytes ask for.
pub mod Writes
