-- The nights in pieces, computed.
pub mod Streamed
