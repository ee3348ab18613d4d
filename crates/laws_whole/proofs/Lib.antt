-- The proof of demand 3.
pub mod Area
pub mod Agree
pub mod Sees
pub mod Pairs
pub mod Decides
pub mod Kept
pub mod Changes
pub mod Marking
pub mod Copies
pub mod Comparison
pub mod Working
pub mod Bytes
pub mod Events
pub mod Runs
pub mod Buffers
pub mod Theorem
