-- The bytes that a line shows, and its length.
pub mod ReadBytes
