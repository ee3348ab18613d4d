-- What the records have of each lane, and whole paths.
pub mod Lanes
pub mod Wholes
