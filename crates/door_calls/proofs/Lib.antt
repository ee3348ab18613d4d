-- What a call of firmware leaves, once the call below it is known.
pub mod Calls
