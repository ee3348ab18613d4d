-- The cases of the module's power, computed.
pub mod Power
