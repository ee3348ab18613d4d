-- The cases of the module's power.
pub mod Power
