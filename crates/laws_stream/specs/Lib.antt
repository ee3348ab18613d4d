-- The vocabulary of the promises about nights in pieces.
pub mod Streams
pub mod Reached
