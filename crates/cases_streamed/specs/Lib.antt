-- The nights in pieces.
pub mod Streamed
