-- What a sample leaves, and which limits it lies beyond.
pub mod Crossing
