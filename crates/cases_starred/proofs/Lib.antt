-- The starred cases, computed.
pub mod Starred
