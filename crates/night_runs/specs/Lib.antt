-- A night's records in runs: in its parts, and in a file.
pub mod FileRunning
pub mod Running
