-- The laws of the parts of a file, and of its check.
pub mod Checks
pub mod Cuts
pub mod Images
