-- The cases of paths, computed.
pub mod Paths
