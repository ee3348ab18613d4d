-- A record's turn.
pub mod Lines
