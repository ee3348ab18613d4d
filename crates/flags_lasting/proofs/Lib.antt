-- Replacing what is on.
pub mod Ons
