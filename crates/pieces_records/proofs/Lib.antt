-- The laws of a run over records.
pub mod Runs
