-- When a write resets the module.
pub mod Resetting
