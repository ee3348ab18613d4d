-- The laws of what a feed and the end leave.
pub mod Bounds
pub mod Left
