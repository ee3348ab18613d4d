-- Runs of events, the refusals of a list, and that calls, a list and a file say the same.
pub mod Runs
pub mod Admission
pub mod Theorem
