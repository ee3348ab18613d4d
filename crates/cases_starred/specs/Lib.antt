-- The starred cases.
pub mod Starred
