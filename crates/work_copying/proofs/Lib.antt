-- The copying step from its parts.
pub mod Copies
