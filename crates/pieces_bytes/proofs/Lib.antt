-- The laws of what is kept, and of what a byte brings.
pub mod Keeping
pub mod Playing
pub mod Taking
