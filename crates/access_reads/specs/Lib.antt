-- What a read leaves, read by name.
pub mod Left
