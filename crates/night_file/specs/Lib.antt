-- The parts of a night file.
pub mod Parts
