-- What each change of the image leaves of each register.
pub mod Ranges
pub mod Outside
pub mod Registers
pub mod Changes
pub mod Back
pub mod Stages
pub mod Stored
pub mod Lasting
pub mod Commands
pub mod Writes
pub mod Starting
pub mod Alike
