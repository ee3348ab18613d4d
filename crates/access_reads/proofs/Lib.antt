-- What a read clears.
pub mod Cleared
pub mod Runs
