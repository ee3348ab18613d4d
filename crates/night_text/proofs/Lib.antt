-- The laws of laid bytes and of the texts of numbers and lines.
pub mod Laid
pub mod Decimals
pub mod Lines
