-- Sums of bytes, and check codes.
pub mod Sums
pub mod Codes
