-- A feed, byte after byte.
pub mod Going
