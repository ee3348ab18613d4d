-- What the tests of the register map compute.
pub mod Ranges
