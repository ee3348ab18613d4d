-- The cases of the night file's editions, computed.
pub mod Editions
