-- When a write runs a command.
pub mod Runs
