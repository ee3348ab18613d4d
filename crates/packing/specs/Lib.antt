-- The working state as bytes.
pub mod Packing
