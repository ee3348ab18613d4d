-- The records of a night file, played.
pub mod Playing
