-- What a call leaves once the refusals of its entry are known.
pub mod Calls
