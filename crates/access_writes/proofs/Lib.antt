-- What each byte of a write leaves, and a plain write.
pub mod Writing
pub mod Putting
