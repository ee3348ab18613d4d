-- Flags against masks, and the search for an unmasked flag bit.
pub mod Unmasked
pub mod Search
