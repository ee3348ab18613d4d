-- The digits of a number of several bytes, the low byte first.
pub mod Low
