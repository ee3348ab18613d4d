-- The bytes of a write, and that the event in its place gives what the write gives.
pub mod Held
pub mod Same
