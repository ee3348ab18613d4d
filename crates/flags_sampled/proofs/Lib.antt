-- What is on after a sample.
pub mod Sampled
