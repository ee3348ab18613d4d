-- The laws of a feed that goes ahead.
pub mod Stretches
