-- The vocabulary of what an event changes.
pub mod Changes
pub mod Told
