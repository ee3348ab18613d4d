-- Feeds of a night in pieces.
pub mod Feeding
