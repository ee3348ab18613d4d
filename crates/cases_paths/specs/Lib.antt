-- The cases of paths.
pub mod Paths
