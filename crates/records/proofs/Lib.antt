-- A loop over the records.
pub mod Fields
pub mod Stages
