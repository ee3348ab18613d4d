-- Where a list of events stands.
pub mod Runs
