-- The cases of command messages, computed.
pub mod Commands
