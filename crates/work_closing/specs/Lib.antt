-- What a work step leaves.
pub mod Leaves
