-- What the crate's proofs cite, and those of the crates above it.
pub mod Lanes
pub mod Gathered
