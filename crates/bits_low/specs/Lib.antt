-- Numbers of several bytes, the low byte first.
pub mod LowFirst
