-- The call of a record of the module's power.
pub mod Power
