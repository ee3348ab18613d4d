-- The laws of a lent buffer.
pub mod Buffers
