-- The vocabulary of the promises about soundness.
pub mod Sound
pub mod Reached
