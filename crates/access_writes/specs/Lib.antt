-- A plain write, read by name.
pub mod Puts
