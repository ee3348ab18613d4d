-- The calls of records.
pub mod Calls
