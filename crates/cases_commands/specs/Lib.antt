-- Cases of command messages.
pub mod Commands
