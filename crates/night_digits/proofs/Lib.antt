-- The characters of decimal digits.
pub mod Characters
