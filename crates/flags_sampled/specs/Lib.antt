-- What is on after a sample, by the limits that it lies beyond.
pub mod Beyond
